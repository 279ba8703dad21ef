-- A text written in quotes reads as the same text.
use Rattle.std.proofs.Common.{◌≡◌, ℕ, suc, ◌+◌, Bool, true, false, not, ◌==◌, [], ◌∷◌, ◌++◌, length, take, drop, Ok, if◌then◌else◌, refl, sym, ap, ◌∙◌, inl, inr, arith, append_assoc}
use Rattle.std.specs.Prelude.{◌||◌}
use Rattle.std.specs.List.{list_any, position_or_len, before_first, after_first}
use Rattle.std.proofs.lemmas.Bool.{cases_Bool}
use Rattle.std.proofs.lemmas.Bool.Decides.{nat_tests}
use Rattle.sal_types.specs.Reading.{with_front}
use Rattle.sal_schema.proofs.Conjuncts.{or_first, or_second}
use Rattle.sal_pathtext.specs.Words.{Text, first, is_blank, after_blanks, is_double_quote, single, double, quoted, said, closed}
use Rattle.sal_pathtext.specs.Written.{is_quote, doubled, in_quotes}
use Rattle.sal_pathtext.proofs.Quotes.{single-cons}

-- ---- blanks

-- without such a byte all are taken
pub no_blanks : (t : Text) → is_blank (first t) ≡ false → after_blanks t ≡ t
no_blanks [] none = refl
no_blanks (c ∷ t) none = rw none refl

-- ---- single quotes

single-quote : (whole t : Text) → single whole (39 ∷ 39 ∷ t) ≡ with_front (39 ∷ []) (single whole t)
single-quote whole t = single-cons whole 39 (39 ∷ t)

single-other : (whole : Text) (c : ℕ) (t : Text) → (c == 39) ≡ false → single whole (c ∷ t) ≡ with_front (c ∷ []) (single whole t)
single-other whole c t other = single-cons whole c t ∙ rw other refl

single-end : (whole rest : Text) → (first rest == 39) ≡ false → single whole (39 ∷ rest) ≡ Ok ([], rest)
single-end whole rest end = single-cons whole 39 rest ∙ rw end refl

-- each single quote of the text is written twice
pub single-doubled : (whole t rest : Text) → (first rest == 39) ≡ false → single whole (doubled t ++ (39 ∷ rest)) ≡ Ok (t, rest)
single-doubled whole [] rest end = single-end whole rest end
single-doubled whole (c ∷ t) rest end =
    elim (cases_Bool (c == 39)) [
      | inl quote ↦
          let is : c ≡ 39 = grind (arith, nat_tests) in
          let more = single-doubled whole t rest end in
          ap (λ d. single whole (((if is_quote d then d ∷ d ∷ [] else d ∷ []) ++ doubled t) ++ (39 ∷ rest))) is
          ∙ single-quote whole (doubled t ++ (39 ∷ rest)) ∙ ap (with_front (39 ∷ [])) more ∙ ap (λ d. Ok (d ∷ t, rest)) (sym is)
      | inr other ↦
          let more = single-doubled whole t rest end in
          ap (λ b. single whole (((if b then c ∷ c ∷ [] else c ∷ []) ++ doubled t) ++ (39 ∷ rest))) other
          ∙ single-other whole c (doubled t ++ (39 ∷ rest)) other ∙ ap (with_front (c ∷ [])) more
    ]

doubled-plain : (t : Text) → list_any is_quote t ≡ false → doubled t ≡ t
doubled-plain [] none = refl
doubled-plain (c ∷ t) none =
    ap (λ b. (if b then c ∷ c ∷ [] else c ∷ []) ++ doubled t) (or_first (is_quote c) (list_any is_quote t) none)
    ∙ ap (λ u. c ∷ u) (doubled-plain t (or_second (is_quote c) (list_any is_quote t) none))

-- ---- double quotes

module _ (rest : Text) where
  quote-there : (t : Text) → list_any is_double_quote (t ++ (34 ∷ rest)) ≡ true
  quote-there [] = refl
  quote-there (c ∷ t) = ap (λ b. is_double_quote c || b) (quote-there t) ∙ elim (is_double_quote c) as (λ b. (b || true) ≡ true) [ true ↦ refl | false ↦ refl ]

  quote-at : (t : Text) → list_any is_double_quote t ≡ false → position_or_len is_double_quote (t ++ (34 ∷ rest)) ≡ length t
  quote-at [] none = refl
  quote-at (c ∷ t) none =
      let here = or_first (is_double_quote c) (list_any is_double_quote t) none in
      let more = quote-at t (or_second (is_double_quote c) (list_any is_double_quote t) none) in
      rw here (omega (arith, more))

  take-front : (t : Text) → take (length t) (t ++ (34 ∷ rest)) ≡ t
  take-front [] = refl
  take-front (c ∷ t) = ap (λ u. c ∷ u) (take-front t)

  drop-front : (t : Text) → drop (length t + 1) (t ++ (34 ∷ rest)) ≡ rest
  drop-front [] = refl
  drop-front (c ∷ t) = let more : length (c ∷ t) + 1 ≡ suc (length t + 1) = omega arith in rw more (drop-front t)

pub double-plain : (whole t rest : Text) → list_any is_double_quote t ≡ false → double whole (t ++ (34 ∷ rest)) ≡ Ok (t, rest)
double-plain whole t rest none =
    let all = t ++ (34 ∷ rest) in
    let at = quote-at rest t none in
    let front : before_first is_double_quote all ≡ t = ap (λ n. take n all) at ∙ take-front rest t in
    let behind : after_first is_double_quote all ≡ rest = ap (λ n. drop (n + 1) all) at ∙ drop-front rest t in
    rw (quote-there rest t, front, behind) refl

-- ---- any text in quotes

-- one of the three spellings, by the quotes that the text has
abbrev spelled : Text → Bool → Bool → Text
spelled t single_quotes double_quotes =
    if not single_quotes then 39 ∷ t ++ 39 ∷ []
    else if not double_quotes then 34 ∷ t ++ 34 ∷ []
    else 39 ∷ doubled t ++ 39 ∷ []

module _ (whole t rest : Text) (end : (first rest == 39) ≡ false) where
  spelled-again : (s d : Bool) → list_any is_quote t ≡ s → list_any is_double_quote t ≡ d → quoted whole (spelled t s d ++ rest) ≡ Ok (t, rest)
  spelled-again false d none other =
      ap (single whole) (append_assoc t (39 ∷ []) rest)
      ∙ ap (λ u. single whole (u ++ (39 ∷ rest))) (sym (doubled-plain t none)) ∙ single-doubled whole t rest end
  spelled-again true false some none = ap (double whole) (append_assoc t (34 ∷ []) rest) ∙ double-plain whole t rest none
  spelled-again true true some both = ap (single whole) (append_assoc (doubled t) (39 ∷ []) rest) ∙ single-doubled whole t rest end

  pub quoted-again : quoted whole (in_quotes t ++ rest) ≡ Ok (t, rest)
  quoted-again = spelled-again (list_any is_quote t) (list_any is_double_quote t) refl refl

begins : (t rest : Text) (s d : Bool) → is_blank (first (spelled t s d ++ rest)) ≡ false
begins t rest false d = refl
begins t rest true false = refl
begins t rest true true = refl

-- ---- the content of a predicate

pub said-again : (whole t rest : Text) → said whole ((61 ∷ in_quotes t ++ 93 ∷ []) ++ rest) ≡ Ok (t, 93 ∷ rest)
unfolding said
said-again whole t rest =
    let seam : (in_quotes t ++ 93 ∷ []) ++ rest ≡ in_quotes t ++ (93 ∷ rest) = append_assoc (in_quotes t) (93 ∷ []) rest in
    ap (λ u. quoted whole (after_blanks u)) seam
    ∙ ap (quoted whole) (no_blanks (in_quotes t ++ (93 ∷ rest)) (begins t (93 ∷ rest) (list_any is_quote t) (list_any is_double_quote t)))
    ∙ quoted-again whole t (93 ∷ rest) refl

pub closed-again : (whole rest : Text) → closed whole (93 ∷ rest) ≡ Ok rest
closed-again whole rest = refl
