-- Records by chain, whose ids count from 1; and the receipts at which chains failed.
use Rattle.std.specs.Prelude.{◌≡◌, ℕ, zero, suc, ◌-◌, ◌<◌, ◌≤◌, Bool, false, List, map, set, Option, None, Some, if◌then◌else◌, nat_le, option_and_then, slice_get, unwrap_or}
use Rattle.std.specs.Option.{option_or}

-- the element of a list for the chain of this id
abbrev pub at_chain : {X : Type 0} → List X → ℕ → Option X
at_chain xs zero = None
at_chain xs (suc i) = slice_get xs i

-- its recorded number, if any
abbrev pub noted_in : List (Option ℕ) → ℕ → Option ℕ
noted_in notes chain = option_and_then (λ note. note) (at_chain notes chain)

-- its flag
abbrev pub flag_in : List Bool → ℕ → Bool
flag_in flags chain = unwrap_or (at_chain flags chain) false

-- the chain, if any, has an id from 1 to `count`
abbrev pub IsWithin : ℕ → Option ℕ → Type 0
IsWithin count chain = (id : ℕ) → chain ≡ Some id → (0 < id) × (id ≤ count)

-- the list with a number recorded for the chain, if any
abbrev pub noted_with : List (Option ℕ) → Option ℕ → ℕ → List (Option ℕ)
noted_with notes None number = notes
noted_with notes (Some chain) number = set notes (chain - 1) (Some number)

-- ---- chains that failed

-- the receipt at which the chain, if any, failed
abbrev pub failure_of : List (Option ℕ) → Option ℕ → Option ℕ
failure_of failures None = None
failure_of failures (Some chain) = noted_in failures chain

-- after the decision of a submission of the chain, if any: the first failure is recorded
abbrev pub failures_after : List (Option ℕ) → Option ℕ → ℕ → Bool → List (Option ℕ)
failures_after failures None receipt done = failures
failures_after failures (Some chain) receipt done = if done then failures else set failures (chain - 1) (option_or (noted_in failures chain) (Some receipt))

-- the failure, unless its receipt is above `count`
abbrev pub up_to : ℕ → Option ℕ → Option ℕ
up_to count None = None
up_to count (Some receipt) = if nat_le receipt count then Some receipt else None

abbrev pub cut_failures : ℕ → List (Option ℕ) → List (Option ℕ)
cut_failures count failures = map (up_to count) failures
