-- Rows of which two neighbours, the second with the lesser path, change places make the same tree.
use Rattle.std.proofs.Common.{◌≡◌, ℕ, zero, suc, ◌<◌, Bool, true, false, cond, List, [], ◌∷◌, length, get_or, set, filter, refl, ap, sym, ◌∙◌, subst, arith}
use Rattle.std.proofs.lemmas.List.{get_or_default}
use Rattle.std.specs.Prelude.{not, ◌&&◌}
use Rattle.std.specs.List.{swap}
use Rattle.std.specs.List.Sorted.{ties}
use Rattle.std.specs.Ordering.{is_eq, is_le, is_lt, ordering_reverse}
use Rattle.std.specs.declared.cmp.Ordering.{Ordering}
use Rattle.std.specs.declared.cmp.Ordering.TheVariants.{Less, Equal, Greater}
use Rattle.sal_types.specs.declared.row.Row.{Row}
use Rattle.sal_types.specs.Order.{path_cmp, path_cmp-IsTotalOrder}
use Rattle.sal_types.proofs.Handy.{same_path}
use Rattle.sal_data.specs.Read.{in_order}
use Rattle.sal_data.proofs.SortedRows.{in_order-stable}

-- ---- lists

-- the element and the next in each other's place
abbrev flip : {X : Type 0} → ℕ → List X → List X
flip zero [] = []
flip zero (x ∷ []) = x ∷ []
flip zero (x ∷ y ∷ r) = y ∷ x ∷ r
flip (suc j) [] = []
flip (suc j) (x ∷ r) = x ∷ flip j r

set-flip : {X : Type 0} (xs : List X) (j : ℕ) (d : X) → suc j < length xs → set (set xs j (get_or xs (suc j) d)) (suc j) (get_or xs j d) ≡ flip j xs
set-flip [] j d lt = absurd (omega arith)
set-flip (x ∷ []) zero d lt = absurd (omega arith)
set-flip (x ∷ y ∷ r) zero d lt = refl
set-flip (x ∷ r) (suc j) d lt = ap (λ l. x ∷ l) (set-flip r j d (omega arith))

both : {X : Type 0} (t : X → Bool) (x y : X) (l : List X) → (t x && t y) ≡ false → filter t (y ∷ x ∷ l) ≡ filter t (x ∷ y ∷ l)
both t x y l =
    elim (t x) as (λ b. (b && t y) ≡ false → cond (t y) (y ∷ cond b (x ∷ filter t l) (filter t l)) (cond b (x ∷ filter t l) (filter t l)) ≡ cond b (x ∷ cond (t y) (y ∷ filter t l) (filter t l)) (cond (t y) (y ∷ filter t l) (filter t l))) [
      | true ↦ λ e. ap (λ b. cond b (y ∷ x ∷ filter t l) (x ∷ filter t l)) e ∙ sym (ap (λ b. x ∷ cond b (y ∷ filter t l) (filter t l)) e)
      | false ↦ λ e. refl
    ]

filter-flip : {X : Type 0} (t : X → Bool) (xs : List X) (j : ℕ) (d : X) → suc j < length xs → (t (get_or xs j d) && t (get_or xs (suc j) d)) ≡ false → filter t (flip j xs) ≡ filter t xs
filter-flip t [] j d lt e = absurd (omega arith)
filter-flip t (x ∷ []) zero d lt e = absurd (omega arith)
filter-flip t (x ∷ y ∷ r) zero d lt e = both t x y r e
filter-flip t (x ∷ r) (suc j) d lt e = ap (λ l. cond (t x) (x ∷ l) l) (filter-flip t r j d (omega arith) e)

-- ---- rows

abbrev before : Row → Row → Bool
before a b = is_lt (path_cmp a.path b.path)

neither : (o : Ordering) → (not (is_lt o) && not (is_lt (ordering_reverse o))) ≡ is_eq o
neither Less = refl
neither Equal = refl
neither Greater = refl

-- rows that tie have the same path
tie : (x y : Row) → ties before x y ≡ true → x.path ≡ y.path
tie x y h =
    same_path x.path y.path
    (sym (neither (path_cmp x.path y.path)) ∙ ap (λ o. not (is_lt (path_cmp x.path y.path)) && not (is_lt o)) (sym (path_cmp-IsTotalOrder.antisymm y.path x.path)) ∙ h)

-- no order is less both ways
never : (o : Ordering) → o ≡ ordering_reverse o → is_lt o ≡ true → ⊥
never Less e h = cc
never Equal e h = cc
never Greater e h = cc

not_both : (x a b : Row) → before b a ≡ true → (ties before x a && ties before x b) ≡ false
not_both x a b less =
    elim (ties before x a) as (λ s. ties before x a ≡ s → (s && ties before x b) ≡ false) [
      | false ↦ λ e. refl
      | true ↦ λ e. elim (ties before x b) as (λ s. ties before x b ≡ s → s ≡ false) [
        | false ↦ λ f. refl
        | true ↦ λ f.
            let same : b.path ≡ a.path = sym (tie x b f) ∙ tie x a e in
            let none : ⊥ = never (path_cmp a.path a.path) (path_cmp-IsTotalOrder.antisymm a.path a.path) (subst (λ p. is_lt (path_cmp p a.path) ≡ true) same less) in
            absurd none
      ] refl
    ] refl

in_order-flip : (rows : List Row) (j : ℕ) (d : Row) → suc j < length rows → before (get_or rows (suc j) d) (get_or rows j d) ≡ true → in_order (set (set rows j (get_or rows (suc j) d)) (suc j) (get_or rows j d)) ≡ in_order rows
in_order-flip rows j d lt less =
    ap in_order (set-flip rows j d lt)
    ∙ in_order-stable rows (flip j rows) (λ x. filter-flip (ties before x) rows j d lt (not_both x (get_or rows j d) (get_or rows (suc j) d) less))

-- what `Vec::swap` leaves, where the second row has the lesser path
pub in_order-swap : (rows : List Row) (j k : ℕ) (x y : Row) → k ≡ suc j → k < length rows → x ≡ get_or rows j x → y ≡ get_or rows k y → is_le (path_cmp x.path y.path) ≡ false → in_order (swap rows j k) ≡ in_order rows
in_order-swap [] j k x y next lt xs ys more = absurd (omega arith)
in_order-swap (d ∷ rows) j k x y next lt xs ys more =
    let less : before (get_or (d ∷ rows) (suc j) d) (get_or (d ∷ rows) j d) ≡ true =
    subst (λ m. before (get_or (d ∷ rows) m d) (get_or (d ∷ rows) j d) ≡ true) next
    (subst (λ a. before (get_or (d ∷ rows) k d) a ≡ true) (xs ∙ get_or_default (d ∷ rows) j x d (omega arith)) (subst (λ b. before b x ≡ true) (ys ∙ get_or_default (d ∷ rows) k y d lt) (greater x y more))) in
    subst (λ m. in_order (swap (d ∷ rows) j m) ≡ in_order (d ∷ rows)) (sym next) (in_order-flip (d ∷ rows) j d (subst (λ m. m < length (d ∷ rows)) next lt) less)
  where
    reversed : (o : Ordering) → is_le o ≡ false → is_lt (ordering_reverse o) ≡ true
    reversed Less e = cc
    reversed Equal e = cc
    reversed Greater e = refl

    greater : (x y : Row) → is_le (path_cmp x.path y.path) ≡ false → before y x ≡ true
    greater x y more = ap is_lt (path_cmp-IsTotalOrder.antisymm y.path x.path) ∙ reversed (path_cmp x.path y.path) more
