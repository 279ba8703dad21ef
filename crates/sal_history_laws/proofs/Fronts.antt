-- Fronts of a path.
use Rattle.std.proofs.Common.{◌≡◌, ℕ, suc, ◌+◌, ◌-◌, ◌<◌, ◌≤◌, zero, Bool, true, false, ◌&&◌, cond, List, [], ◌∷◌, ◌++◌, length, map, take, Some, None, inl, inr, refl, sym, ap, ◌∙◌, arith, append_assoc, append-nil, length-append}
use Rattle.std.specs.Prelude.{find}
use Rattle.std.specs.List.{list_all, slice_get}
use Rattle.std.specs.Ordering.{eq_by_cmp, is_eq}
use Rattle.std.specs.Cmp.{tied_itself, Equal-is}
use Rattle.std.proofs.lemmas.Bool.{and_from, and_parts, true≢false, cases_eq}
use Rattle.std.proofs.lemmas.List.Folds.{list_all-map}
use Rattle.sal_types.specs.declared.value.Step.{Step}
use Rattle.sal_types.specs.Order.{step_cmp, step_cmp-IsAntisymmetric, step_cmp-IsTotalOrder}
use Rattle.sal_types.specs.Prefix.{is_prefix}
use Rattle.sal_types.proofs.Prefixes.{IsPrefix-from_test, is_prefix-append}
use Rattle.sal_rows.specs.Clash.{depths_above}
use Rattle.sal_rows.specs.Commits.{numbers_after}
use Rattle.sal_schema.specs.Fitting.{is_root, prefixes}
use Rattle.sal_schema.specs.Paths.{last_step}
use Rattle.sal_rules.specs.Refusals.{above}
use Rattle.sal_types.proofs.Handy.{slice_get-end}

pub same_step : (s t : Step) → eq_by_cmp step_cmp s t ≡ true → s ≡ t
same_step s t e = step_cmp-IsAntisymmetric s t ((Equal-is _).0 e)

pub step_itself : (s : Step) → eq_by_cmp step_cmp s s ≡ true
step_itself s = ap is_eq (tied_itself step_cmp-IsTotalOrder s)

equal : (s t : Step) → s ≡ t → eq_by_cmp step_cmp s t ≡ true
equal s t e = ap (eq_by_cmp step_cmp s) (sym e) ∙ step_itself s

-- ---- tests of fronts

pub front_itself : (p : List Step) → is_prefix p p ≡ true
front_itself p = ap (is_prefix p) (sym (append-nil p)) ∙ is_prefix-append p []

pub front_through : (p q r : List Step) → is_prefix p q ≡ true → is_prefix q r ≡ true → is_prefix p r ≡ true
front_through p q r e f =
    let (a, first) = IsPrefix-from_test p q e in
    let (b, second) = IsPrefix-from_test q r f in
    ap (is_prefix p) (second ∙ ap (λ x. x ++ b) first ∙ append_assoc p a b) ∙ is_prefix-append p (a ++ b)

-- of two fronts of a path one is a front of the other
pub either_front : (p q r : List Step) → is_prefix p r ≡ true → is_prefix q r ≡ true → is_prefix p q ≡ false → is_prefix q p ≡ true
either_front [] q r e f g = cc
either_front (s ∷ p) [] r e f g = refl
either_front (s ∷ p) (t ∷ q) [] e f g = cc
either_front (s ∷ p) (t ∷ q) (u ∷ r) e f g =
    let (su, pr) = and_parts (eq_by_cmp step_cmp s u) (is_prefix p r) e in
    let (tu, qr) = and_parts (eq_by_cmp step_cmp t u) (is_prefix q r) f in
    let alike : s ≡ t = same_step s u su ∙ sym (same_step t u tu) in
    let rest : is_prefix p q ≡ false = ap (λ b. b && is_prefix p q) (sym (equal s t alike)) ∙ g in
    ap (λ b. b && is_prefix q p) (equal t s (sym alike)) ∙ either_front p q r pr qr rest

-- a front of a path of one step more is a front, or all of it
pub front_of_more : (p q : List Step) (s : Step) → is_prefix p (q ++ s ∷ []) ≡ true → is_prefix p q ≡ false → p ≡ q ++ s ∷ []
front_of_more [] q s e f = cc
front_of_more (t ∷ []) [] s e f = ap (λ x. x ∷ []) (same_step t s (and_parts (eq_by_cmp step_cmp t s) true e).0)
front_of_more (t ∷ u ∷ p) [] s e f = absurd (true≢false (sym (and_parts (eq_by_cmp step_cmp t s) false e).1))
front_of_more (t ∷ p) (u ∷ q) s e f =
    let (tu, rest) = and_parts (eq_by_cmp step_cmp t u) (is_prefix p (q ++ s ∷ [])) e in
    let other : is_prefix p q ≡ false = ap (λ b. b && is_prefix p q) (sym tu) ∙ f in
    λ i. same_step t u tu i ∷ front_of_more p q s rest other i

-- ---- the end

pub last_step-end : (p : List Step) (s : Step) → last_step (p ++ s ∷ []) ≡ Some s
last_step-end p s =
    let long : length (p ++ s ∷ []) ≡ length p + 1 = length-append p (s ∷ []) in
    let less : length (p ++ s ∷ []) - 1 ≡ length p = omega (arith, long) in
    ap (slice_get (p ++ s ∷ [])) less ∙ slice_get-end p s

-- ---- the rows above a path

find-map : {X Y : Type 0} (t : Y → Bool) (f : X → Y) (xs : List X) → find t (map f xs) ≡ None → find (λ x. t (f x)) xs ≡ None
find-map t f [] e = refl
find-map t f (x ∷ xs) e = elim (t (f x)) as (λ b. cond b (Some (f x)) (find t (map f xs)) ≡ None → cond b (Some x) (find (λ x. t (f x)) xs) ≡ None) [ true ↦ λ h. cc | false ↦ λ h. find-map t f xs h ] e

find-first : {X : Type 0} (t : X → Bool) (x : X) (xs : List X) → find t (x ∷ xs) ≡ None → t x ≡ false
find-first t x xs e = elim (t x) as (λ b. cond b (Some x) (find t xs) ≡ None → b ≡ false) [ true ↦ λ h. cc | false ↦ λ h. refl ] e

find-rest : {X : Type 0} (t : X → Bool) (x : X) (xs : List X) → find t (x ∷ xs) ≡ None → find t xs ≡ None
find-rest t x xs e = elim (t x) as (λ b. cond b (Some x) (find t xs) ≡ None → find t xs ≡ None) [ true ↦ λ h. cc | false ↦ λ h. h ] e

-- if no path above passes a test, no prefix of the path passes it
pub none_above : (t : List Step → Bool) (p q : List Step) → find t (above p) ≡ None → is_root q ≡ false → is_prefix q p ≡ true → is_prefix p q ≡ false → t q ≡ false
none_above t p [] none inside below strict = cc
none_above t [] (s ∷ q) none inside below strict = cc
none_above t (u ∷ []) (s ∷ []) none inside below strict =
    let alike = same_step s u (and_parts (eq_by_cmp step_cmp s u) true below).0 in
    absurd (true≢false (sym (ap (λ b. b && true) (equal u s (sym alike))) ∙ strict))
none_above t (u ∷ []) (s ∷ v ∷ q) none inside below strict = absurd (true≢false (sym (and_parts (eq_by_cmp step_cmp s u) false below).1))
none_above t (u ∷ v ∷ p) (s ∷ []) none inside below strict =
    let alike = same_step s u (and_parts (eq_by_cmp step_cmp s u) true below).0 in
    ap (λ x. t (x ∷ [])) alike ∙ find-first t (u ∷ []) (map (λ r. u ∷ r) (above (v ∷ p))) none
none_above t (u ∷ v ∷ p) (s ∷ w ∷ q) none inside below strict =
    let (here, rest) = and_parts (eq_by_cmp step_cmp s u) (is_prefix (w ∷ q) (v ∷ p)) below in
    let alike = same_step s u here in
    let other : is_prefix (v ∷ p) (w ∷ q) ≡ false = ap (λ b. b && is_prefix (v ∷ p) (w ∷ q)) (sym (equal u s (sym alike))) ∙ strict in
    ap (λ x. t (x ∷ w ∷ q)) alike
    ∙ none_above (λ r. t (u ∷ r)) (v ∷ p) (w ∷ q) (find-map t (λ r. u ∷ r) (above (v ∷ p)) (find-rest t (u ∷ []) (map (λ r. u ∷ r) (above (v ∷ p))) none)) refl rest other

map-find : {X Y : Type 0} (t : Y → Bool) (f : X → Y) (xs : List X) → find (λ x. t (f x)) xs ≡ None → find t (map f xs) ≡ None
map-find t f [] e = refl
map-find t f (x ∷ xs) e = elim (t (f x)) as (λ b. cond b (Some x) (find (λ x. t (f x)) xs) ≡ None → cond b (Some (f x)) (find t (map f xs)) ≡ None) [ true ↦ λ h. cc | false ↦ λ h. map-find t f xs h ] e

-- if no prefix of a path passes a test, no path above is found
pub above_none : (t : List Step → Bool) (p : List Step) → ((q : List Step) → is_root q ≡ false → is_prefix q p ≡ true → is_prefix p q ≡ false → t q ≡ false) → find t (above p) ≡ None
above_none t [] each = refl
above_none t (u ∷ []) each = refl
above_none t (u ∷ v ∷ p) each =
    let same = step_itself u in
    let first : t (u ∷ []) ≡ false = each (u ∷ []) refl (ap (λ b. b && true) same) (ap (λ b. b && false) same) in
    let later : find (λ q. t (u ∷ q)) (above (v ∷ p)) ≡ None =
    above_none (λ q. t (u ∷ q)) (v ∷ p) (λ q inside below strict. each (u ∷ q) refl (ap (λ b. b && is_prefix q (v ∷ p)) same ∙ below) (ap (λ b. b && is_prefix (v ∷ p) q) same ∙ strict)) in
    ap (λ b. cond b (Some (u ∷ [])) (find t (map (λ q. u ∷ q) (above (v ∷ p))))) first ∙ map-find t (λ q. u ∷ q) (above (v ∷ p)) later

none_numbered : (t : ℕ → Bool) (a n d : ℕ) → find t (numbers_after a n) ≡ None → a < d → d ≤ a + n → t d ≡ false
none_numbered t a zero d none low high = absurd (omega arith)
none_numbered t a (suc n) d none low high =
    elim (cases_eq d (a + 1)) [
      | inl here ↦ ap t here ∙ find-first t (a + 1) (numbers_after (a + 1) n) none
      | inr other ↦ none_numbered t (a + 1) n d (find-rest t (a + 1) (numbers_after (a + 1) n) none) (grind arith) (omega arith)
    ]

take-front : (q rest : List Step) → take (length q) (q ++ rest) ≡ q
take-front [] rest = refl
take-front (s ∷ q) rest = ap (λ r. s ∷ r) (take-front q rest)

-- the same by the numbers of steps
pub none_by_depth : (t : List Step → Bool) (p q : List Step) → find (λ d. t (take d p)) (depths_above p) ≡ None → is_root q ≡ false → is_prefix q p ≡ true → is_prefix p q ≡ false → t q ≡ false
none_by_depth t p q none inside below strict =
    let (rest, is) = IsPrefix-from_test q p below in
    let whole : take (length q) p ≡ q = ap (take (length q)) is ∙ take-front q rest in
    let some : 0 < length q = filled q inside in
    let more : length q < length p = longer rest is in
    ap t (sym whole) ∙ none_numbered (λ d. t (take d p)) 0 (length p - 1) (length q) none some (omega (arith, more))
  where
    filled : (q : List Step) → is_root q ≡ false → 0 < length q
    filled [] e = cc
    filled (s ∷ q) e = omega arith

    longer : (rest : List Step) → p ≡ q ++ rest → length q < length p
    longer [] e =
        let back : is_prefix p q ≡ true = ap (λ x. is_prefix x q) (e ∙ append-nil q) ∙ front_itself q in
        absurd (true≢false (sym back ∙ strict))
    longer (s ∷ rest) e = let long : length p ≡ length q + length (s ∷ rest) = ap length e ∙ length-append q (s ∷ rest) in omega (arith, long)

-- ---- all fronts of a path

pub all_fronts : (t : List Step → Bool) (r q : List Step) → list_all t (prefixes r) ≡ true → is_prefix q r ≡ true → t q ≡ true
all_fronts t [] [] all below = (and_parts (t []) true all).0
all_fronts t [] (s ∷ q) all below = cc
all_fronts t (u ∷ r) [] all below = (and_parts (t []) (list_all t (map (λ p. u ∷ p) (prefixes r))) all).0
all_fronts t (u ∷ r) (s ∷ q) all below =
    let (here, rest) = and_parts (eq_by_cmp step_cmp s u) (is_prefix q r) below in
    let later = (and_parts (t []) (list_all t (map (λ p. u ∷ p) (prefixes r))) all).1 in
    ap (λ x. t (x ∷ q)) (same_step s u here) ∙ all_fronts (λ p. t (u ∷ p)) r q (sym (list_all-map t (λ p. u ∷ p) (prefixes r)) ∙ later) rest

pub of_fronts : (t : List Step → Bool) (r : List Step) → ((q : List Step) → is_prefix q r ≡ true → t q ≡ true) → list_all t (prefixes r) ≡ true
of_fronts t [] all = and_from (t []) true (all [] refl) refl
of_fronts t (u ∷ r) all =
    and_from (t []) (list_all t (map (λ p. u ∷ p) (prefixes r))) (all [] refl)
    (list_all-map t (λ p. u ∷ p) (prefixes r) ∙ of_fronts (λ p. t (u ∷ p)) r (λ q below. all (u ∷ q) (ap (λ b. b && is_prefix q r) (step_itself u) ∙ below)))
