-- Texts that are made from an input, or the status of its first fault.
use Rattle.std.specs.Prelude.{◌≡◌, ℕ, List, MatchResult, Result, Ok, Err}
use Rattle.sal_prepare.specs.declared.status.Status.{Status}
use Rattle.sal_prepare.specs.declared.status.Status.TheVariants.{BadScript, BadSchema, BadOpening, BadOrder, NoMemory, NoPart, BadStream, BadExport}

-- the status is that of the definition; `NoMemory` has no condition
abbrev pub IsTextStatus : Result (List ℕ) Status → Status → Type 0
IsTextStatus made NoMemory = Unit {0}
IsTextStatus made (BadScript place) = made ≡ Err (BadScript place)
IsTextStatus made (BadSchema n text) = made ≡ Err (BadSchema n text)
IsTextStatus made (BadOpening text) = made ≡ Err (BadOpening text)
IsTextStatus made (BadOrder index) = made ≡ Err (BadOrder index)
IsTextStatus made NoPart = made ≡ Err NoPart
IsTextStatus made (BadStream text) = made ≡ Err (BadStream text)
IsTextStatus made (BadExport commit) = made ≡ Err (BadExport commit)
IsTextStatus made status = ⊥

-- the text, or the status, of the definition; `NoMemory` has no condition
abbrev pub IsTextOr : Result (List ℕ) Status → Result (List ℕ) Status → Type 0
IsTextOr made result = MatchResult result (λ text. made ≡ Ok text) (IsTextStatus made)
