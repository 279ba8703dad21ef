-- The numbers of a span, and searches through them from the end.
use Rattle.std.proofs.Common.{◌≡◌, ℕ, zero, suc, ◌+◌, ◌-◌, ◌<◌, Bool, true, false, List, [], ◌∷◌, ◌++◌, ◌||◌, None, Some, refl, ap, sym, ◌∙◌, cond, arith, reverse, append_assoc, append-nil}
use Rattle.std.specs.Prelude.{find, is_some}
use Rattle.std.specs.List.{list_any}
use Rattle.std.specs.Option.{option_or}
use Rattle.std.proofs.lemmas.List.{reverse-append}
use Rattle.std.proofs.lemmas.Grind.{reverse_onto}
use Rattle.sal_rows.specs.Commits.{numbers_after, numbers_in}
use Rattle.sal_rows.specs.declared.clash.Span.{Span}
use Rattle.sal_rows.specs.Clash.{numbers_over}

-- one number more, at the end
pub numbers_after-suc : (a n : ℕ) → numbers_after a (suc n) ≡ numbers_after a n ++ (a + suc n) ∷ []
numbers_after-suc a zero = refl
numbers_after-suc a (suc n) =
    let e : (a + 1) + suc n ≡ a + suc (suc n) = omega arith in
    ap (λ (ns : List ℕ). (a + 1) ∷ ns) (numbers_after-suc (a + 1) n ∙ ap (λ k. numbers_after (a + 1) n ++ k ∷ []) e)

find-append : (t : ℕ → Bool) (xs : List ℕ) (x : ℕ) → is_some (find t (xs ++ x ∷ [])) ≡ (is_some (find t xs) || t x)
find-append t [] x = elim (t x) as (λ b. is_some (cond b (Some x) None) ≡ b) [ true ↦ refl | false ↦ refl ]
find-append t (y ∷ xs) x =
    elim (t y) as (λ b. is_some (cond b (Some y) (find t (xs ++ x ∷ []))) ≡ (is_some (cond b (Some y) (find t xs)) || t x)) [ true ↦ refl | false ↦ find-append t xs x ]

pub or_swap : (a b : Bool) → (a || b) ≡ (b || a)
or_swap true true = refl
or_swap true false = refl
or_swap false true = refl
or_swap false false = refl

-- a search from the end looks at the last one first
pub find_last : (t : ℕ → Bool) (xs : List ℕ) (x : ℕ) → find t (reverse (xs ++ x ∷ [])) ≡ cond (t x) (Some x) (find t (reverse xs))
find_last t xs x = ap (find t) (reverse-append xs (x ∷ []))

-- and finds one exactly if there is one
pub find_any : (t : ℕ → Bool) (xs : List ℕ) → is_some (find t (reverse xs)) ≡ list_any t xs
find_any t [] = refl
find_any t (x ∷ xs) =
    ap (λ ys. is_some (find t ys)) (reverse_onto xs x []) ∙ find-append t (reverse xs) x ∙ ap (λ b. b || t x) (find_any t xs) ∙ or_swap (list_any t xs) (t x)

-- the last number is tried first
pub find_back : (t : ℕ → Bool) (base left : ℕ) → 0 < left → find t (reverse (numbers_after base left)) ≡ cond (t (base + left)) (Some (base + left)) (find t (reverse (numbers_after base (left - 1))))
find_back t base zero h = absurd (omega arith)
find_back t base (suc n) h =
    let e : n ≡ suc n - 1 = omega arith in
    ap (λ (ns : List ℕ). find t (reverse ns)) (numbers_after-suc base n) ∙ find_last t (numbers_after base n) (base + suc n)
    ∙ ap (λ k. cond (t (base + suc n)) (Some (base + suc n)) (find t (reverse (numbers_after base k)))) e

found-append : {X : Type 0} (t : X → Bool) (xs ys : List X) → find t (xs ++ ys) ≡ option_or (find t xs) (find t ys)
found-append t [] ys = refl
found-append t (x ∷ xs) ys =
    elim (t x) as (λ b. cond b (Some x) (find t (xs ++ ys)) ≡ option_or (cond b (Some x) (find t xs)) (find t ys)) [ true ↦ refl | false ↦ found-append t xs ys ]

-- a search from the end looks at the last part first
pub find_part : (t : ℕ → Bool) (xs ys : List ℕ) → find t (reverse (xs ++ ys)) ≡ option_or (find t (reverse ys)) (find t (reverse xs))
find_part t xs ys = ap (find t) (reverse-append xs ys) ∙ found-append t (reverse ys) (reverse xs)

-- the commits of some spans and of one more
pub numbers_over-push : (spans : List Span) (span : Span) → numbers_over (spans ++ span ∷ []) ≡ numbers_over spans ++ numbers_in span
numbers_over-push [] span = append-nil (numbers_in span)
numbers_over-push (s ∷ spans) span = ap (λ ns. numbers_in s ++ ns) (numbers_over-push spans span) ∙ sym (append_assoc (numbers_in s) (numbers_over spans) (numbers_in span))
