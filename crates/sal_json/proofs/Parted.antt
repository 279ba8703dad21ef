-- Texts and their bytes.
use Rattle.std.proofs.Common.{◌≡◌, ℕ, ◌+◌, ◌<◌, ◌≤◌, Bool, false, ◌==◌, nat_lt, IsTrue, List, [], ◌∷◌, length, take, drop, fold, Option, Some, None, Result, Ok, Err, refl, ap, sym, ◌∙◌, inl, inr, arith}
use Rattle.std.specs.Option.{option_and_then}
use Rattle.std.proofs.lemmas.Bool.{cases_Bool, cases_lt}
use Rattle.std.proofs.lemmas.List.{take_all}
use Rattle.std.proofs.lemmas.List.Splits.{slice_split_first}
use Rattle.std.specs.List.{list_any, list_all, position_or_len, slice_split, slice_get}
use borrow.Author.Tests.{ltb-true}
use Rattle.sal_schema.proofs.Facts.{slice_get_some}
use Rattle.sal_schema.proofs.Numbered.{list_all-at}
use Rattle.sal_json.specs.declared.fault.ScalarFault.{ScalarFault}
use Rattle.sal_json.specs.Named.{is_space, then_name, with_name, bits_of}

pub none_found : (p : ℕ → Bool) (t : List ℕ) → position_or_len p t ≡ length t → list_any p t ≡ false
none_found p [] e = refl
none_found p (c ∷ t) e = elim (cases_Bool (p c)) [
  | inl here ↦ let e' = rw here at e in absurd (omega arith)
  | inr here ↦ let e' = rw here at e in rw here (none_found p t (omega arith))
]

-- ---- names with numbers

-- a number that a name has is one of the numbers
pub number_of_name : (numbers : List ℕ) (at : Option ℕ) (n : ℕ) → Some n ≡ option_and_then (slice_get numbers) at → IsTrue (list_all (λ p. nat_lt p 64) numbers) → n < 64
number_of_name numbers None n e all = cc
number_of_name numbers (Some i) n e all =
    let (inside, here) = slice_get_some numbers i n (sym e) in
    let below = list_all-at (λ p. nat_lt p 64) numbers i n all inside in
    ltb-true n 64 (ap (λ k. nat_lt k 64) here ∙ below)

-- ---- names with spaces between them

abbrev pub parts : List ℕ → List (List ℕ)
parts t = slice_split is_space t

abbrev pub part_len : List ℕ → ℕ
part_len t = position_or_len is_space t

pub parts-last : (t : List ℕ) → length t ≤ part_len t → parts t ≡ t ∷ []
parts-last [] h = refl
parts-last (c ∷ t) h = elim (cases_Bool (is_space c)) [
  | inl e ↦ let h' = rw e at h in absurd (omega arith)
  | inr e ↦ let h' = rw e at h in rw (e, parts-last t (omega arith)) refl
]

pub parts-more : (t : List ℕ) → part_len t < length t → parts t ≡ take (part_len t) t ∷ parts (drop (part_len t + 1) t)
parts-more t h = slice_split_first is_space t 0 h

module _ (names : List (List ℕ)) (positions : List ℕ) where
  abbrev pub bits_after : Result ℕ ScalarFault → List (List ℕ) → Result ℕ ScalarFault
  bits_after before texts = fold (then_name names positions) before texts

  pub after-fault : (fault : ScalarFault) (texts : List (List ℕ)) → bits_after (Err fault) texts ≡ Err fault
  after-fault fault [] = refl
  after-fault fault (t ∷ texts) = after-fault fault texts

  -- the first name is refused
  pub bits-refused : (set : ℕ) (t : List ℕ) (fault : ScalarFault) → with_name names positions set (take (part_len t) t) ≡ Err fault → bits_after (Ok set) (parts t) ≡ Err fault
  bits-refused set t fault e = elim (cases_lt (part_len t) (length t)) [
    | inl less ↦ rw (parts-more t less) (ap (λ r. bits_after r (parts (drop (part_len t + 1) t))) e ∙ after-fault fault (parts (drop (part_len t + 1) t)))
    | inr last ↦ rw (parts-last t last) (ap (with_name names positions set) (sym (take_all (part_len t) t last)) ∙ e)
  ]

  -- the first name is the last one
  pub bits-last : (set new : ℕ) (t : List ℕ) → with_name names positions set (take (part_len t) t) ≡ Ok new → length t ≤ part_len t → bits_after (Ok set) (parts t) ≡ Ok new
  bits-last set new t e last = rw (parts-last t last) (ap (with_name names positions set) (sym (take_all (part_len t) t last)) ∙ e)

  -- others follow
  pub bits-more : (set new : ℕ) (t : List ℕ) → with_name names positions set (take (part_len t) t) ≡ Ok new → part_len t < length t
      → bits_after (Ok set) (parts t) ≡ bits_after (Ok new) (parts (drop (part_len t + 1) t))
  bits-more set new t e less = rw (parts-more t less) (ap (λ r. bits_after r (parts (drop (part_len t + 1) t))) e)

  pub bits_of-parts : (t : List ℕ) → (length t == 0) ≡ false → bits_of names positions t ≡ bits_after (Ok 0) (parts t)
  unfolding bits_of
  bits_of-parts t some = rw some refl
