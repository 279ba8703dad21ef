-- Where two texts differ.
use Rattle.std.specs.Prelude.{◌≡◌, ◌↔◌, ℕ, ◌+◌, List, [], ◌∷◌, ◌++◌, Option, None, Some, if◌then◌else◌, nat_eq}

-- after `line` lines, the number of whole lines in the longest common prefix of two texts; none if they are equal
abbrev pub difference : ℕ → List ℕ → List ℕ → Option ℕ
difference line [] [] = None
difference line [] (y ∷ ys) = Some line
difference line (x ∷ xs) [] = Some line
difference line (x ∷ xs) (y ∷ ys) = if nat_eq x y then difference (if nat_eq x 10 then line + 1 else line) xs ys else Some line

-- ---- the meaning

-- the number of whole lines of a text
abbrev pub line_ends : List ℕ → ℕ
line_ends [] = 0
line_ends (x ∷ xs) = (if nat_eq x 10 then 1 else 0) + line_ends xs

-- the two have no common first byte: they begin with different ones, or just one of them is empty
abbrev pub Part : List ℕ → List ℕ → Type 0
Part [] [] = ⊥
Part [] (y ∷ ys) = Unit {0}
Part (x ∷ xs) [] = Unit {0}
Part (x ∷ xs) (y ∷ ys) = x ≡ y → ⊥

-- the longest common prefix of two texts has `line` whole lines
pub record PartsBehind (text : List ℕ) (other : List ℕ) (line : ℕ) : Type 0 where
  pub front : List ℕ
  pub rest : List ℕ
  pub rest_of_other : List ℕ
  pub is : text ≡ front ++ rest
  pub is_other : other ≡ front ++ rest_of_other
  pub part : Part rest rest_of_other
  pub lines : line ≡ line_ends front

-- there is no difference exactly if two texts are equal, and otherwise it is that number of lines
abbrev pub DifferencesEndLines : Type 0
DifferencesEndLines =
    (text other : List ℕ) → ((difference 0 text other ≡ None) ↔ (text ≡ other)) × ((line : ℕ) → ((difference 0 text other ≡ Some line) ↔ PartsBehind text other line))
