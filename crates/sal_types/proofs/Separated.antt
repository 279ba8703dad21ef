-- The parts of a text between separators, from one to the next.
use Rattle.std.proofs.Common.{◌≡◌, ℕ, ◌+◌, ◌<◌, ◌≤◌, not, ◌==◌, List, [], ◌∷◌, length, take, drop, Option, Some, None, Bor, refl, sym, ◌∙◌, inl, inr, arith}
use Rattle.std.proofs.lemmas.Bool.{cases_Bool}
use Rattle.std.specs.List.{slice_split, position_or_len, prefix_len}
use Rattle.std.proofs.lemmas.List.Splits.{slice_split_first}
use Rattle.std.proofs.lemmas.Str.Pattern.{IsSplitOnceResult, split_once_first}

module _ (separator : ℕ) where
  abbrev pub parted : List ℕ → List (List ℕ)
  parted t = slice_split (λ c. c == separator) t

  abbrev pub part_len : List ℕ → ℕ
  part_len t = prefix_len (λ c. not (c == separator)) t

  pub parted-last : (t : List ℕ) → length t ≤ part_len t → parted t ≡ t ∷ []
  parted-last [] h = refl
  parted-last (c ∷ t) h = elim (cases_Bool (c == separator)) [
    | inl e ↦ let h' = rw e at h in absurd (omega arith)
    | inr e ↦ let h' = rw e at h in rw (e, parted-last t (omega arith)) refl
  ]

  pub parted-more : (t : List ℕ) → part_len t < length t → parted t ≡ take (part_len t) t ∷ parted (drop (part_len t + 1) t)
  parted-more t h = slice_split_first (λ c. c == separator) t 0 h

  no-separator : (t : List ℕ) → length t ≡ position_or_len (λ c. c == separator) t → parted t ≡ t ∷ []
  no-separator [] h = refl
  no-separator (c ∷ t) h = elim (cases_Bool (c == separator)) [
    | inl e ↦ let h' = rw e at h in absurd (omega arith)
    | inr e ↦ let h' = rw e at h in rw (e, no-separator t (omega arith)) refl
  ]

  -- what `split_once` gives
  module _ (ascii : separator < 128) (text : List ℕ) (r : Option (Bor (List ℕ) × Bor (List ℕ))) (split : IsSplitOnceResult separator text r) where
    pub parted-whole : r ≡ None → parted text ≡ text ∷ []
    parted-whole is = let none = rw is at (split_once_first separator text r split ascii) in no-separator text (sym none)

    pub parted-parts : (x : Bor (List ℕ) × Bor (List ℕ)) → r ≡ Some x → parted text ≡ x.0.now ∷ parted x.1.now
    parted-parts x is =
        let (inside, front, back) = rw is at (split_once_first separator text r split ascii) in
        slice_split_first (λ c. c == separator) text 0 inside ∙ rw (front, back) refl
