-- The changes of owners by their numbers, and by kind.
use Rattle.std.specs.Prelude.{◌≡◌, ℕ, ◌+◌, Bool, ◌&&◌, ◌||◌, List, [], ◌∷◌, ◌++◌, Option, Some, None, if◌then◌else◌, nat_eq, nat_le, is_some, slice_get}
use Rattle.std.specs.BTreeMap.{is_at}
use Rattle.std.specs.List.{fold, list_any}
use Rattle.std.specs.Map.{lookup}
use Rattle.std.specs.Option.{unwrap_or}
use Rattle.std.specs.Ordering.{nat_cmp}
use Rattle.sal_owner.specs.declared.entity.OwnerChange.{OwnerChange}
use Rattle.sal_owner.specs.declared.shift.Shift.{Shift}
use Rattle.sal_owner.specs.Kept.{text_cmp, told}
use Rattle.sal_owner.specs.Ownership.{Text, same_text}

-- the numbers of those changes that pass the test, the first of them being i
abbrev pub picked : (ℕ → Shift → Bool) → ℕ → List Shift → List ℕ
picked p i [] = []
picked p i (s ∷ shifts) = (if p i s then i ∷ [] else []) ++ picked p (i + 1) shifts

-- the numbers of the changes of the kind
abbrev pub numbers_of : Text → List Shift → List ℕ
numbers_of k shifts = picked (λ i s. same_text s.entity.kind k) 0 shifts

-- the recorded numbers of the kind
abbrev pub numbers_at : List (Text × List ℕ) → Text → List ℕ
numbers_at numbers k = unwrap_or (lookup (is_at (text_cmp k)) numbers) []

-- each kind has exactly its numbers
abbrev pub IsNumbered : List Shift → List (Text × List ℕ) → Type 0
IsNumbered shifts numbers = (k : Text) → numbers_at numbers k ≡ numbers_of k shifts

-- the number is due
abbrev pub is_due : List (ℕ × Unit {0}) → ℕ → Bool
is_due due n = is_some (lookup (is_at (nat_cmp n)) due)

-- the number is that of a change of the kind, and at least its start and `from`
abbrev pub has_number : List (Text × List ℕ) → ℕ → ℕ → Text × ℕ → Bool
has_number numbers from n kind = nat_le kind.1 n && (nat_le from n && list_any (nat_eq n) (numbers_at numbers kind.0))

-- it was due, or is the number of a change of these kinds
abbrev pub due_by : List (Text × List ℕ) → ℕ → ℕ → List (Text × ℕ) → Bool → Bool
due_by numbers from n kinds was = fold (λ b kind. b || has_number numbers from n kind) was kinds

-- how the client sees the change with the number, if there is one
abbrev pub told_some : ℕ → Option Shift → List OwnerChange
told_some c None = []
told_some c (Some s) = told c s ∷ []

abbrev pub told_at : ℕ → List Shift → ℕ → List OwnerChange
told_at c shifts n = told_some c (slice_get shifts n)

abbrev pub told_over : ℕ → List Shift → List OwnerChange → List (ℕ × Unit {0}) → List OwnerChange
told_over c shifts list due = fold (λ l e. l ++ told_at c shifts e.0) list due
