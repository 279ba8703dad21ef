-- The numbers and lines of the statuses.
use Rattle.std.specs.Prelude.{ℕ, List, [], ◌∷◌, ◌++◌, codes, decimal}
use Rattle.sal_prepare.specs.declared.status.Status.{Status}
use Rattle.sal_prepare.specs.declared.status.Status.TheVariants.{Done, BadWords, ReadFault, WriteFault, TooLong, BadScript, BadSchema, BadOpening, BadOrder, NoMemory, NoPart, BadStream, BadExport}

abbrev pub number_of : Status → ℕ
number_of Done = 0
number_of BadWords = 2
number_of ReadFault = 3
number_of WriteFault = 4
number_of TooLong = 5
number_of (BadScript place) = 6
number_of (BadSchema device text) = 7
number_of (BadOpening text) = 8
number_of (BadOrder index) = 9
number_of NoMemory = 10
number_of NoPart = 11
number_of (BadStream text) = 12
number_of (BadExport commit) = 13

abbrev pub line_of : Status → List ℕ
line_of Done = []
line_of BadWords = codes "bad words\n"
line_of ReadFault = codes "read fault\n"
line_of WriteFault = codes "write fault\n"
line_of TooLong = codes "too long\n"
line_of (BadScript place) = codes "bad script at " ++ (place ++ 10 ∷ [])
line_of (BadSchema device text) = codes "bad schema " ++ (decimal device ++ (32 ∷ (text ++ 10 ∷ [])))
line_of (BadOpening text) = codes "bad opening " ++ (text ++ 10 ∷ [])
line_of (BadOrder index) = codes "bad order at " ++ (decimal index ++ 10 ∷ [])
line_of NoMemory = codes "no memory\n"
line_of NoPart = codes "no second part\n"
line_of (BadStream text) = codes "bad stream " ++ (text ++ 10 ∷ [])
line_of (BadExport commit) = codes "bad export " ++ (decimal commit ++ 10 ∷ [])
