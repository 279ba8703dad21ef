-- A range that narrows another one is within the same bits.
use Rattle.std.proofs.Common.{◌≡◌, ℕ, ◌-◌, ◌^◌, ℤ, pos, negsuc, ◌≤ℤ◌, int_le, Bool, true, false, ◌&&◌, ◌==◌, IsTrue, List, [], ◌∷◌, Option, Some, None, refl, inl, inr, arith}
use Rattle.std.proofs.lemmas.Int.{ints}
use Rattle.std.proofs.lemmas.Bool.{cases_Bool, or_cases}
use Rattle.std.specs.Prelude.{option_map, unwrap_or, find}
use Rattle.std.specs.List.{list_all, slice_split}
use Rattle.std.specs.Result.{result_unwrap_or}
use Rattle.sal_stmt.specs.declared.stmt.Stmt.{Stmt}
use Rattle.sal_module.specs.declared.keyword.Keyword.{Keyword}
use Rattle.sal_module.specs.Statements.{is_named, subs_of, argument_of}
use Rattle.sal_restrict.specs.declared.ranges.Part.{Part}
use Rattle.sal_restrict.specs.Ranges.{is_below, is_ascending, holds, covers, outer}
use Rattle.sal_restrict.specs.RangeTexts.{judged, parts}
use Rattle.sal_restrict.specs.Words.{is_trimmed}
use Rattle.sal_restrict.proofs.Numbers.{is_in, is_in-bounds, le_test, le_passes, covers-holds, is_ascending-tail}
use Rattle.sal_schema.specs.Valid.{lie_within, lie_in_bits}
use Rattle.sal_schema.proofs.Conjuncts.{and_first, and_second}
use Rattle.sal_typedefs.specs.Types.{read_or_all, narrowed}
use Rattle.sal_build.proofs.Quiet.{both}

module _ (low high : ℤ) where
  -- a covered number is between them
  held-between : (within : List Part) (n : ℤ) → IsTrue (lie_within low high within) → holds within n ≡ true → (low ≤ℤ n) × (n ≤ℤ high)
  held-between [] n h held = cc
  held-between (part ∷ within) n h held =
      let here = and_first (int_le low part.low && int_le part.high high) (lie_within low high within) h in
      elim (or_cases (is_in n part) (holds within n) held) [
        | inl e ↦
            let (l, u) = is_in-bounds n part e in
            let lower = le_test low part.low (and_first (int_le low part.low) (int_le part.high high) here) in
            let upper = le_test part.high high (and_second (int_le low part.low) (int_le part.high high) here) in
            (omega (arith, ints), omega (arith, ints))
        | inr e ↦ held-between within n (and_second (int_le low part.low && int_le part.high high) (lie_within low high within) h) e
      ]

  covered-lie : (within range : List Part) → IsTrue (lie_within low high within) → is_ascending range ≡ true → list_all (covers within) range ≡ true → IsTrue (lie_within low high range)
  covered-lie within [] h order all = refl
  covered-lie within (part ∷ range) h order all =
      let here : covers within part ≡ true = and_first (covers within part) (list_all (covers within) range) all in
      let rest : list_all (covers within) range ≡ true = and_second (covers within part) (list_all (covers within) range) all in
      let some = le_test part.low part.high (and_first (int_le part.low part.high) (is_below part.high range && is_ascending range) order) in
      let (l, m) = held-between within part.low h (covers-holds within part here part.low (omega (arith, ints)) some) in
      let (n, u) = held-between within part.high h (covers-holds within part here part.high some (omega (arith, ints))) in
      both (int_le low part.low && int_le part.high high) (lie_within low high range) (both (int_le low part.low) (int_le part.high high) (le_passes low part.low l) (le_passes part.high high u))
      (covered-lie within range h (is_ascending-tail part range order) rest)

  judged-lie : (within : List Part) (found : Option (List Part)) → IsTrue (lie_within low high within) → IsTrue (lie_within low high (result_unwrap_or (judged within found) within))
  judged-lie within None h = h
  judged-lie within (Some range) h = elim (cases_Bool (is_ascending range)) [
    | inl order ↦ (elim (cases_Bool (list_all (covers within) range)) [ inl all ↦ rw (order, all) (covered-lie within range h order all) | inr wider ↦ rw (order, wider) h ])
    | inr f ↦ rw f h
  ]

  read-lie : (text : List ℕ) (within : List Part) (digits : ℕ) → IsTrue (lie_within low high within) → IsTrue (lie_within low high (read_or_all text digits within))
  read-lie text within digits h = elim (cases_Bool (is_trimmed text)) [
    | inl t ↦ rw t (judged-lie within (parts digits (outer within) (slice_split (λ c. c == 124) text)) h)
    | inr f ↦ rw f h
  ]

  found-lie : (found : Option Stmt) (digits : ℕ) (within : List Part) → IsTrue (lie_within low high within)
      → IsTrue (lie_within low high (unwrap_or (option_map (λ sub. read_or_all (argument_of sub) digits within) found) within))
  found-lie None digits within h = h
  found-lie (Some sub) digits within h = read-lie (argument_of sub) within digits h

pub narrowed-lie : (bits : ℕ) (signed : Bool) (keyword : Keyword) (stmt : Stmt) (digits : ℕ) (range : List Part) → IsTrue (lie_in_bits bits signed range)
    → IsTrue (lie_in_bits bits signed (narrowed keyword stmt digits range))
narrowed-lie bits true keyword stmt digits range h = found-lie (negsuc (2 ^ (bits - 1) - 1)) (pos (2 ^ (bits - 1) - 1)) (find (is_named keyword) (subs_of stmt)) digits range h
narrowed-lie bits false keyword stmt digits range h = found-lie (pos 0) (pos (2 ^ bits - 1)) (find (is_named keyword) (subs_of stmt)) digits range h
