-- The text of `lint`: the lines of all modules of a script, and the status of `run` with more about its fault.
use Rattle.std.specs.Prelude.{ℕ, ⊤, List, [], ◌∷◌, ◌++◌, Option, None, Some, Result, Ok, Err, codes, decimal, if◌then◌else◌, map, slice_get, slice_index_or}
use Rattle.std.specs.Borrow.{Bor}
use Rattle.std.specs.List.{enumerate_from, flat_map}
use Rattle.sal_script.specs.Json.{text_eq}
use Rattle.sal_script.specs.Limits.{all_texts}
use Rattle.sal_script.specs.Script.{DeviceParts, Parts, script_of}
use Rattle.sal_prepare.specs.Scripted.{Prepared, prepared}
use Rattle.sal_prepare.specs.Statuses.{line_of}
use Rattle.sal_prepare.specs.declared.status.Status.{Status}
use Rattle.sal_prepare.specs.declared.status.Status.TheVariants.{Done, BadWords, ReadFault, WriteFault, TooLong, BadScript, BadSchema, BadOpening, BadOrder, NoMemory, NoPart, BadStream, BadExport}
use Rattle.sal_lint.specs.declared.named.Named.{Named}
use Rattle.sal_lint.specs.declared.places.Place.{Place}
use Rattle.sal_lint.specs.Lines.{line_at, lines_of}
use Rattle.sal_lint.specs.Named.{named_in}

-- ---- the status

abbrev pub ended : Result Prepared Status → Status
ended (Ok script) = Done
ended (Err status) = status

-- the status of the script that the bytes denote: that of `run`, before a client runs
abbrev pub status_of : List ℕ → Status
status_of bytes = ended (prepared bytes)

-- a status that a script can have: there is no other one
abbrev pub IsEnd : Status → Type 0
IsEnd Done = ⊤
IsEnd (BadScript place) = ⊤
IsEnd (BadSchema d text) = ⊤
IsEnd (BadOpening text) = ⊤
IsEnd BadWords = ⊥
IsEnd ReadFault = ⊥
IsEnd WriteFault = ⊥
IsEnd TooLong = ⊥
IsEnd (BadOrder index) = ⊥
IsEnd NoMemory = ⊥
IsEnd NoPart = ⊥
IsEnd (BadStream text) = ⊥
IsEnd (BadExport commit) = ⊥

-- ---- the lines of its modules

-- the texts of the modules of each domain, by its number; those of upgrades are last
abbrev pub texts_by : Parts → List (List (List ℕ))
texts_by parts = all_texts parts.modules parts.upgrades ∷ map (λ (d : DeviceParts). d.modules) parts.devices

-- those of one domain; none if there is no such domain
abbrev pub texts_at : ℕ → Parts → List (List ℕ)
texts_at d parts = slice_index_or (texts_by parts) d []

abbrev pub all_lines : Parts → List ℕ
all_lines parts = flat_map (λ (d, texts). lines_of d texts) (enumerate_from 0 (texts_by parts))

-- ---- the place of the fault

abbrev pub fault_line : ℕ → Named → Option (List ℕ) → List ℕ
fault_line d named None = []
fault_line d named (Some text) = line_at d named.module text (codes "fault") named.at

abbrev pub named_line : ℕ → List (List ℕ) → Option Named → List ℕ
named_line d texts None = []
named_line d texts (Some named) = fault_line d named (slice_get texts named.module)

-- the line of the place that the status names
abbrev pub place_line : Parts → Status → List ℕ
place_line parts (BadSchema d text) = named_line d (texts_at d parts) (named_in text)
place_line parts Done = []
place_line parts BadWords = []
place_line parts ReadFault = []
place_line parts WriteFault = []
place_line parts TooLong = []
place_line parts (BadScript place) = []
place_line parts (BadOpening text) = []
place_line parts (BadOrder index) = []
place_line parts NoMemory = []
place_line parts NoPart = []
place_line parts (BadStream text) = []
place_line parts (BadExport commit) = []

-- the place at which a JSON reader stopped
abbrev pub json_line : Place → List ℕ
json_line at = codes "line " ++ (decimal at.line ++ (codes " column " ++ (decimal at.column ++ 10 ∷ [])))

-- ---- the text

-- of a script that was read, with its status
abbrev pub parts_text : Parts → Status → List ℕ
parts_text parts status = all_lines parts ++ (line_of status ++ place_line parts status)

-- of bytes that are no script
abbrev pub unread_text : Place → List ℕ → List ℕ
unread_text at place = line_of (BadScript place) ++ (if text_eq place (codes "json") then json_line at else [])

abbrev pub text_by : Place → Status → Result Parts (List ℕ) → List ℕ
text_by at status (Ok parts) = parts_text parts status
text_by at status (Err place) = unread_text at place

-- The text of the bytes. If they are no JSON, a reader of JSON stopped at this place; else it is not used.
abbrev pub lint_text : Place → List ℕ → List ℕ
lint_text at bytes = text_by at (status_of bytes) (script_of bytes)

-- ---- results of functions

-- borrowed texts
abbrev pub texts_in : List (Bor (List ℕ)) → List (List ℕ)
texts_in texts = map (λ (text : Bor (List ℕ)). text.now) texts
