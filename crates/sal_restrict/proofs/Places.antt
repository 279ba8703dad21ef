-- The place of a word in a text, from one place to the next.
use Rattle.std.proofs.Common.{◌≡◌, ℕ, suc, ◌+◌, ◌<◌, ◌≤◌, nat_eq, List, [], ◌∷◌, length, drop, if◌then◌else◌, refl, inl, inr, true, arith}
use Rattle.std.proofs.lemmas.Bool.{cases_Bool, and_parts}
use Rattle.std.proofs.lemmas.List.{drop_more}
use Rattle.std.specs.List.{starts_with}
use Rattle.sal_restrict.specs.Words.{place_of}

pub place_of-at : (word t : List ℕ) (i : ℕ) → i < length t
    → place_of word (drop i t) ≡ (if starts_with nat_eq (drop i t) word then 0 else suc (place_of word (drop (i + 1) t)))
place_of-at word t i h = rw (drop_more t i 0 h) refl

pub place_of-within : (word t : List ℕ) → place_of word t ≤ length t
place_of-within word [] = omega arith
place_of-within word (c ∷ t) = elim (cases_Bool (starts_with nat_eq (c ∷ t) word)) [
  | inl e ↦ rw e (omega arith)
  | inr e ↦ rw e (omega (arith, place_of-within word t))
]

-- a word fits in the text
pub starts_with-fits : (t word : List ℕ) → starts_with nat_eq t word ≡ true → length word ≤ length t
starts_with-fits t [] e = omega arith
starts_with-fits [] (d ∷ word) e = cc
starts_with-fits (c ∷ t) (d ∷ word) e = let more = starts_with-fits t word (and_parts (nat_eq d c) (starts_with nat_eq t word) e).1 in omega arith
