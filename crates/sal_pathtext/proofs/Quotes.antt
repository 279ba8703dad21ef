-- Texts in quotes, from one quote to the next.
use Rattle.std.proofs.Common.{◌≡◌, ℕ, suc, ◌+◌, ◌<◌, ◌≤◌, Bool, true, false, not, ◌==◌, [], ◌∷◌, ◌++◌, length, take, drop, get_or, Ok, if◌then◌else◌, refl, sym, ap, ◌∙◌, inl, inr, arith, append-nil}
use Rattle.std.proofs.lemmas.Bool.{cases_Bool}
use Rattle.std.proofs.lemmas.Bool.Decides.{nat_tests}
use Rattle.std.proofs.lemmas.List.{drop_more, drop-drop}
use Rattle.std.proofs.lemmas.List.Sums.{prefix_len_stops}
use Rattle.std.specs.List.{list_any, prefix_len}
use Rattle.sal_types.specs.Reading.{with_front}
use Rattle.sal_pathtext.specs.Written.{doubled}
use Rattle.sal_pathtext.specs.Words.{Text, first, is_double_quote, bad_text, single}
pub use Rattle.sal_types.proofs.Handy.{with_front-with_front, with_front-nil}

abbrev pub is_other : ℕ → ℕ → Bool
is_other q c = not (c == q)

-- how many bytes are before the next such byte
abbrev pub before : ℕ → Text → ℕ
before q t = prefix_len (is_other q) t

-- what is at the next such byte
pub stands_at : (q : ℕ) (t : Text) → before q t < length t → get_or t (before q t) 0 ≡ q
stands_at q t low = let stop = prefix_len_stops (is_other q) t 0 low in grind (arith, nat_tests)

pub single-cons : (whole : Text) (c : ℕ) (t : Text) → single whole (c ∷ t) ≡ (
    if not (c == 39) then with_front (c ∷ []) (single whole t)
    else if first t == 39 then with_front (39 ∷ []) (single whole (drop 1 t))
    else Ok ([], t)
    )
unfolding single
single-cons whole c [] = elim (cases_Bool (c == 39)) [ inl e ↦ rw e refl | inr e ↦ rw e refl ]
single-cons whole c (d ∷ t) = refl

pub single-nil : (whole : Text) → single whole [] ≡ bad_text whole []
unfolding single
single-nil whole = refl

-- without a quote
pub single-none : (whole t : Text) → length t ≤ before 39 t → single whole t ≡ bad_text whole []
single-none whole [] past = single-nil whole
single-none whole (c ∷ t) past =
    elim (cases_Bool (c == 39)) [
      | inl e ↦ absurd (let z : before 39 (c ∷ t) ≡ 0 = rw e refl in omega arith)
      | inr e ↦
          let z : before 39 (c ∷ t) ≡ 1 + before 39 t = rw e refl in
          let rest = single-none whole t (omega arith) in
          single-cons whole c t ∙ rw (e, rest) refl
    ]

-- up to a quote
pub single-to : (whole t : Text) → before 39 t < length t → single whole t ≡ with_front (take (before 39 t) t) (single whole (drop (before 39 t) t))
single-to whole [] low = absurd (omega arith)
single-to whole (c ∷ t) low =
    elim (cases_Bool (c == 39)) [
      | inl e ↦ let z : before 39 (c ∷ t) ≡ 0 = rw e refl in rw z (sym (with_front-nil (single whole (c ∷ t))))
      | inr e ↦
          let z : before 39 (c ∷ t) ≡ 1 + before 39 t = rw e refl in
          let s : 1 + before 39 t ≡ suc (before 39 t) = omega arith in
          let rest = single-to whole t (omega arith) in
          rw (z, s) (single-cons whole c t ∙ rw (e, rest) (with_front-with_front (c ∷ []) (take (before 39 t) t) (single whole (drop (before 39 t) t))))
    ]

-- the next quote, and what follows
pub single-at : (whole t : Text) → before 39 t < length t → single whole t ≡ (
    if first (drop (before 39 t + 1) t) == 39 then with_front (take (before 39 t) t ++ 39 ∷ []) (single whole (drop (before 39 t + 1 + 1) t))
    else Ok (take (before 39 t) t, drop (before 39 t + 1) t)
    )
single-at whole t low =
    let here = drop_more t (before 39 t) 0 low in
    let quote = stands_at 39 t low in
    let two : drop 1 (drop (before 39 t + 1) t) ≡ drop (before 39 t + 1 + 1) t = drop-drop 1 (before 39 t + 1) t ∙ ap (λ k. drop k t) (omega arith) in
    let after = drop (before 39 t + 1) t in
    let turn : single whole (drop (before 39 t) t) ≡ (if first after == 39 then with_front (39 ∷ []) (single whole (drop 1 after)) else Ok ([], after)) =
    ap (single whole) here ∙ single-cons whole (get_or t (before 39 t) 0) after ∙ rw quote refl in
    single-to whole t low ∙ ap (with_front (take (before 39 t) t)) turn ∙ elim (first after == 39) as (λ b. with_front (take (before 39 t) t) (if b then with_front (39 ∷ []) (single whole (drop 1 after)) else Ok ([], after)) ≡ (if b then with_front (take (before 39 t) t ++ 39 ∷ []) (single whole (drop (before 39 t + 1 + 1) t)) else Ok (take (before 39 t) t, after))) [
      | true ↦ with_front-with_front (take (before 39 t) t) (39 ∷ []) (single whole (drop 1 after)) ∙ ap (λ r. with_front (take (before 39 t) t ++ 39 ∷ []) (single whole r)) two
      | false ↦ ap (λ x. Ok (x, after)) (append-nil (take (before 39 t) t))
    ]

-- whether the text has a double quote
pub double-none : (t : Text) → length t ≤ before 34 t → list_any is_double_quote t ≡ false
double-none [] past = refl
double-none (c ∷ t) past =
    elim (cases_Bool (c == 34)) [
      | inl e ↦ absurd (let z : before 34 (c ∷ t) ≡ 0 = rw e refl in omega arith)
      | inr e ↦
          let z : before 34 (c ∷ t) ≡ 1 + before 34 t = rw e refl in
          rw (e, double-none t (omega arith)) refl
    ]

pub double-one : (t : Text) → before 34 t < length t → list_any is_double_quote t ≡ true
double-one [] low = absurd (omega arith)
double-one (c ∷ t) low =
    elim (cases_Bool (c == 34)) [
      | inl e ↦ rw e refl
      | inr e ↦
          let z : before 34 (c ∷ t) ≡ 1 + before 34 t = rw e refl in
          rw (e, double-one t (omega arith)) refl
    ]

-- each single quote twice, up to the next one
pub doubled-none : (t : Text) → length t ≤ before 39 t → doubled t ≡ t
doubled-none [] past = refl
doubled-none (c ∷ t) past =
    elim (cases_Bool (c == 39)) [
      | inl e ↦ absurd (let z : before 39 (c ∷ t) ≡ 0 = rw e refl in omega arith)
      | inr e ↦
          let z : before 39 (c ∷ t) ≡ 1 + before 39 t = rw e refl in
          rw (e, doubled-none t (omega arith)) refl
    ]

pub doubled-at : (t : Text) → before 39 t < length t → doubled t ≡ take (before 39 t) t ++ (39 ∷ 39 ∷ doubled (drop (before 39 t + 1) t))
doubled-at [] low = absurd (omega arith)
doubled-at (c ∷ t) low =
    elim (cases_Bool (c == 39)) [
      | inl e ↦
          let z : before 39 (c ∷ t) ≡ 0 = rw e refl in
          let is : c ≡ 39 = grind (arith, nat_tests) in
          rw (z, e) (ap (λ d. d ∷ d ∷ doubled t) is)
      | inr e ↦
          let z : before 39 (c ∷ t) ≡ 1 + before 39 t = rw e refl in
          let s : 1 + before 39 t ≡ suc (before 39 t) = omega arith in
          let s1 : suc (before 39 t) + 1 ≡ suc (before 39 t + 1) = omega arith in
          let rest = doubled-at t (omega arith) in
          rw (z, s, s1, e) (ap (λ u. c ∷ u) rest)
    ]
