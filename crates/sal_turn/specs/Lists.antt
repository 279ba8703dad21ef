-- Lists, as seats and the lock use them.
use Rattle.std.specs.Prelude.{◌≡◌, ◌⊎◌, cond, List, [], ◌∷◌, length, leb}

-- the item is in the list
abbrev pub In : {A : Type 0} → A → List A → Type 0
In x [] = ⊥
In x (y ∷ ys) = (y ≡ x) ⊎ In x ys

module _ {E : Type 0} where
  -- the longer of two lists, the second one if their lengths are equal
  abbrev pub longer : List E → List E → List E
  longer xs ys = cond (leb (length xs) (length ys)) ys xs

  -- the other one
  abbrev pub shorter : List E → List E → List E
  shorter xs ys = cond (leb (length xs) (length ys)) xs ys
