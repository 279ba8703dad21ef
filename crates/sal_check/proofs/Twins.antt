-- Two entries of a list that have the same cells.
use Rattle.std.proofs.Common.{◌≡◌, Bool, true, false, ◌||◌, List, [], ◌∷◌, ◌++◌, inl, inr, Some, None, refl, sym, ap, subst, ◌∙◌}
use Rattle.std.proofs.lemmas.Bool.{or_right}
use Rattle.std.specs.Prelude.{T, ◌⊎◌}
use Rattle.std.specs.List.{list_any, flat_map}
use Rattle.std.specs.FinMap.{find, is_sorted}
use Rattle.std.specs.FinMap.Entries.{below_all}
use Rattle.sal_types.specs.declared.value.Step.{Step}
use Rattle.sal_types.specs.declared.value.Cell.{Cell}
use Rattle.sal_types.specs.Order.{step_cmp}
use Rattle.sal_node.specs.Tree.{Tree}
use Rattle.sal_node.proofs.Entries.{first as and_left, second as and_right}
use Rattle.sal_tree.proofs.Laws.{eq, missing, same, self_tie}
use Rattle.sal_rules.specs.Rules.{has_double, same_cells}
use Rattle.sal_check.proofs.Doubles.{same-IsEquivalence}
use Rattle.sal_check.proofs.Members.{In, In-back, In-flat, In-from}
use Rattle.sal_check.proofs.Walked.{find-in}
pub use Rattle.sal_node.proofs.Entries.{Entries}

-- ---- lists of cells

pub any-in : (f : List Cell → Bool) (xs : List (List Cell)) (x : List Cell) → In x xs → f x ≡ true → list_any f xs ≡ true
any-in f [] x i e = absurd i
any-in f (y ∷ xs) x (inl h) e = ap (λ b. b || list_any f xs) (ap f (sym h) ∙ e)
any-in f (y ∷ xs) x (inr i) e = or_right (f y) (list_any f xs) (any-in f xs x i e)

pub any-out : (f : List Cell → Bool) (xs : List (List Cell)) → list_any f xs ≡ true → (x : List Cell) × In x xs × (f x ≡ true)
any-out f [] e = cc
any-out f (y ∷ xs) e = elim (f y) as (λ b. f y ≡ b → (b || list_any f xs) ≡ true → (x : List Cell) × In x (y ∷ xs) × (f x ≡ true)) [
  | true ↦ λ h k. (y, inl refl, h)
  | false ↦ λ h k. let (x, i, g) = any-out f xs k in (x, inr i, g)
] refl e

double-across : (xs ys : List (List Cell)) (x y : List Cell) → In x xs → In y ys → same_cells x y ≡ true → has_double (xs ++ ys) ≡ true
double-across [] ys x y i j e = absurd i
double-across (z ∷ xs) ys x y (inl h) j e = ap (λ b. b || has_double (xs ++ ys)) (any-in (same_cells z) (xs ++ ys) y (In-back y xs ys j) (ap (λ w. same_cells w y) (sym h) ∙ e))
double-across (z ∷ xs) ys x y (inr i) j e = or_right (list_any (same_cells z) (xs ++ ys)) (has_double (xs ++ ys)) (double-across xs ys x y i j e)

double-back : (xs ys : List (List Cell)) → has_double ys ≡ true → has_double (xs ++ ys) ≡ true
double-back [] ys e = e
double-back (x ∷ xs) ys e = or_right (list_any (same_cells x) (xs ++ ys)) (has_double (xs ++ ys)) (double-back xs ys e)

-- ---- twins

-- at most one
abbrev pub IsShort : List (List Cell) → Type 0
IsShort xs = (xs ≡ []) ⊎ ((x : List Cell) × (xs ≡ x ∷ []))

-- two entries at different steps have cells that are the same
pub record Twins (of : Step × Tree → List (List Cell)) (es : Entries) : Type 0 where
  pub one : Step × Tree
  pub other : Step × Tree
  pub cells : List Cell
  pub others : List Cell
  pub in_one : In one es
  pub in_other : In other es
  pub apart : eq one.0 other.0 ≡ false
  pub has_one : In cells (of one)
  pub has_other : In others (of other)
  pub alike : same_cells cells others ≡ true

swap : (x y : List Cell) → same_cells x y ≡ true → same_cells y x ≡ true
swap x y e = same-IsEquivalence.symm y x ∙ e

pub double-in : (of : Step × Tree → List (List Cell)) (es : Entries) (e d : Step × Tree) (x y : List Cell) → In e es → In d es → eq e.0 d.0 ≡ false → In x (of e) → In y (of d) → same_cells x y ≡ true → has_double (flat_map of es) ≡ true
double-in of [] e d x y i j apart has also alike = absurd i
double-in of (z ∷ es) e d x y (inl h) (inl k) apart has also alike =
    let no : false ≡ true = sym apart ∙ ap (λ (w : Step × Tree). eq e.0 w.0) (k ∙ sym h) ∙ self_tie e.0 in
    cc
double-in of (z ∷ es) e d x y (inl h) (inr j) apart has also alike = double-across (of z) (flat_map of es) x y (subst (λ (w : Step × Tree). In x (of w)) h has) (In-flat of es d y j also) alike
double-in of (z ∷ es) e d x y (inr i) (inl k) apart has also alike = double-across (of z) (flat_map of es) y x (subst (λ (w : Step × Tree). In y (of w)) k also) (In-flat of es e x i has) (swap x y alike)
double-in of (z ∷ es) e d x y (inr i) (inr j) apart has also alike = double-back (of z) (flat_map of es) (double-in of es e d x y i j apart has also alike)

below-in : (x : Step) (es : Entries) (e : Step × Tree) → T (below_all step_cmp x es) → T (is_sorted step_cmp es) → In e es → eq x e.0 ≡ false
below-in x es e below sorted i = elim (eq x e.0) as (λ b. eq x e.0 ≡ b → b ≡ false) [
  | true ↦ λ t.
      let there : find step_cmp e.0 es ≡ Some e.1 = find-in e.0 e.1 es sorted i in
      let none : find step_cmp e.0 es ≡ None = missing e.0 x es (ap (eq e.0) (same x e.0 t) ∙ self_tie e.0) below in
      cc
  | false ↦ λ t. refl
] refl

further : (of : Step × Tree → List (List Cell)) (z : Step × Tree) (es : Entries) → Twins of es → Twins of (z ∷ es)
further of z es t = record { one = t.one; other = t.other; cells = t.cells; others = t.others; in_one = inr t.in_one; in_other = inr t.in_other; apart = t.apart; has_one = t.has_one; has_other = t.has_other; alike = t.alike }

found : (of : Step × Tree → List (List Cell)) (z : Step × Tree) (es : Entries) → T (is_sorted step_cmp (z ∷ es)) → (has_double (flat_map of es) ≡ true → Twins of es) → (x : List Cell) → of z ≡ x ∷ [] → has_double (of z ++ flat_map of es) ≡ true → Twins of (z ∷ es)
found of z es sorted later x is e = elim (list_any (same_cells x) (flat_map of es)) as (λ b. list_any (same_cells x) (flat_map of es) ≡ b → (b || has_double (flat_map of es)) ≡ true → Twins of (z ∷ es)) [
  | true ↦ λ h k.
      let (y, i, alike) = any-out (same_cells x) (flat_map of es) h in
      let (d, j, has) = In-from of es y i in
      record { one = z; other = d; cells = x; others = y; in_one = inl refl; in_other = inr j; apart = below-in z.0 es d (and_left (below_all step_cmp z.0 es) (is_sorted step_cmp es) sorted) (and_right (below_all step_cmp z.0 es) (is_sorted step_cmp es) sorted) j; has_one = subst (In x) (sym is) (inl refl); has_other = has; alike = alike }
  | false ↦ λ h k. further of z es (later k)
] refl (sym (ap (λ (l : List (List Cell)). has_double (l ++ flat_map of es)) is) ∙ e)

pub double-out : (of : Step × Tree → List (List Cell)) → ((e : Step × Tree) → IsShort (of e)) → (es : Entries) → T (is_sorted step_cmp es) → has_double (flat_map of es) ≡ true → Twins of es
double-out of short [] sorted e = cc
double-out of short (z ∷ es) sorted e =
    let later : has_double (flat_map of es) ≡ true → Twins of es = double-out of short es (and_right (below_all step_cmp z.0 es) (is_sorted step_cmp es) sorted) in
    elim (short z) [
      | inl none ↦ further of z es (later (sym (ap (λ (l : List (List Cell)). has_double (l ++ flat_map of es)) none) ∙ e))
      | inr w ↦ found of z es sorted later w.0 w.1 e
    ]
