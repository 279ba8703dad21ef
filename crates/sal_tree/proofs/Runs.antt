-- Rows whose paths have the same first step, and the rows after them.
use Rattle.std.proofs.Common.{◌≡◌, ℕ, suc, zero, ◌+◌, ◌<◌, ◌≤◌, Bool, true, false, List, [], ◌∷◌, ◌++◌, length, take, drop, Some, None, refl, ap, sym, ◌∙◌, subst, if◌then◌else◌, arith}
use Rattle.std.specs.Prelude.{T}
use Rattle.std.specs.Ordering.{is_lt, is_eq, ordering_then}
use Rattle.std.specs.declared.cmp.Ordering.TheVariants.{Less, Equal, Greater}
use Rattle.std.specs.Cmp.{tied_itself}
use Rattle.std.specs.FinMap.Entries.{below_all}
use Rattle.sal_types.specs.declared.value.Step.{Step}
use Rattle.sal_types.specs.declared.value.Cell.{Cell}
use Rattle.sal_types.specs.declared.row.Row.{Row}
use Rattle.sal_types.specs.Order.{step_cmp, path_cmp, step_cmp-IsTotalOrder, step_cmp-IsAntisymmetric}
use Rattle.sal_types.specs.Tree.{entries}
use Rattle.sal_node.proofs.Entries.{first, both}
use Rattle.sal_tree.specs.Rows.{here, below, from_depth, first_cell, other_rows, is_root, begins, leading}
use Rattle.sal_tree.proofs.Laws.{same}
use Rattle.sal_tree.proofs.Parts.{Rising, Behind, behind-first, behind-rest, rising-rest}

-- the rows at the depth and below
pub from_depth-zero : (rows : List Row) → from_depth 0 rows ≡ rows
from_depth-zero [] = refl
from_depth-zero (row ∷ rows) = ap (λ (l : List Row). row ∷ l) (from_depth-zero rows)

drop_none : (n : ℕ) → drop {A = Step} n [] ≡ []
drop_none zero = refl
drop_none (suc n) = refl

drop_one : (p : List Step) (d : ℕ) → drop (d + 1) p ≡ drop 1 (drop d p)
drop_one p zero = refl
drop_one [] (suc d) = drop_none (suc d + 1)
drop_one (x ∷ p) (suc d) = ap (λ n. drop n (x ∷ p)) (let q : suc d + 1 ≡ suc (d + 1) = omega arith in q) ∙ drop_one p d

pub from_depth-next : (d : ℕ) (rows : List Row) → from_depth (d + 1) rows ≡ from_depth 1 (from_depth d rows)
from_depth-next d [] = refl
from_depth-next d (row ∷ rows) = λ i. record { path = drop_one row.path d i; cell = row.cell } ∷ from_depth-next d rows i

pub from_depth-take : (d n : ℕ) (rows : List Row) → from_depth d (take n rows) ≡ take n (from_depth d rows)
from_depth-take d zero rows = refl
from_depth-take d (suc n) [] = refl
from_depth-take d (suc n) (row ∷ rows) = ap (λ (l : List Row). record { path = drop d row.path; cell = row.cell } ∷ l) (from_depth-take d n rows)

pub from_depth-drop : (d n : ℕ) (rows : List Row) → from_depth d (drop n rows) ≡ drop n (from_depth d rows)
from_depth-drop d zero rows = refl
from_depth-drop d (suc n) [] = refl
from_depth-drop d (suc n) (row ∷ rows) = from_depth-drop d n rows

-- whether a path ends at the depth
pub root-long : (p : List Step) (d : ℕ) → length p ≤ d → is_root (drop d p) ≡ true
root-long [] zero h = refl
root-long [] (suc d) h = refl
root-long (x ∷ p) zero h = absurd (omega arith)
root-long (x ∷ p) (suc d) h = root-long p d (omega arith)

root-short : (p : List Step) (d : ℕ) → d < length p → is_root (drop d p) ≡ false
root-short [] d h = absurd (omega arith)
root-short (x ∷ p) zero h = refl
root-short (x ∷ p) (suc d) h = root-short p d (omega arith)

pub ends-at : (b : Bool) (p : List Step) (d : ℕ) → (b ≡ true → length p ≤ d) → (b ≡ false → d < length p) → b ≡ is_root (drop d p)
ends-at true p d f g = sym (root-long p d (f refl))
ends-at false p d f g = sym (root-short p d (g refl))

-- the first row and the others
pub first-others : (rows : List Row) → rows ≡ here (first_cell rows) ++ other_rows rows
first-others [] = refl
first-others (row ∷ rows) = by_path row.path row.cell rows
  where
    by_path : (p : List Step) (c : Cell) (rest : List Row) → record { path = p; cell = c } ∷ rest ≡ here (if is_root p then Some c else None) ++ (if is_root p then rest else record { path = p; cell = c } ∷ rest)
    by_path [] c rest = refl
    by_path (x ∷ p) c rest = refl

-- no row is at the empty path
abbrev pub AllBelow : List Row → Type 0
AllBelow [] = Unit {0}
AllBelow (row ∷ rows) = (is_root row.path ≡ false) × AllBelow rows

below-behind : (q : List Step) (rows : List Row) → Behind q rows → AllBelow rows
below-behind q [] h = tt
below-behind q (row ∷ rows) h = (not_root q row.path (first _ (below_all path_cmp q (entries rows)) h), below-behind q rows (behind-rest q row rows h))
  where
    not_root : (q p : List Step) → T (is_lt (path_cmp q p)) → is_root p ≡ false
    not_root [] [] h = absurd h
    not_root (y ∷ q) [] h = absurd h
    not_root q (x ∷ p) h = refl

pub others-below : (rows : List Row) → Rising rows → AllBelow (other_rows rows)
others-below [] h = tt
others-below (row ∷ rows) h = elim (is_root row.path) as (λ b. is_root row.path ≡ b → AllBelow (if b then rows else row ∷ rows)) [
  | true ↦ λ e. below-behind row.path rows (behind-first row rows h)
  | false ↦ λ e. (e, below-behind row.path rows (behind-first row rows h))
] refl

pub others-rising : (rows : List Row) → Rising rows → Rising (other_rows rows)
others-rising [] h = tt
others-rising (row ∷ rows) h = elim (is_root row.path) as (λ b. Rising (if b then rows else row ∷ rows)) [ true ↦ rising-rest row rows h | false ↦ h ]

pub below-drop : (n : ℕ) (rows : List Row) → AllBelow rows → AllBelow (drop n rows)
below-drop zero rows h = h
below-drop (suc n) [] h = tt
below-drop (suc n) (row ∷ rows) h = below-drop n rows h.1

-- the rows of a run are those below its step
pub run-below : (x : Step) (rows : List Row) → take (leading x rows) rows ≡ below x (from_depth 1 (take (leading x rows) rows))
run-below x [] = refl
run-below x (row ∷ rows) = elim (begins x row.path) as (λ b. begins x row.path ≡ b → take (if b then 1 + leading x rows else 0) (row ∷ rows) ≡ below x (from_depth 1 (take (if b then 1 + leading x rows else 0) (row ∷ rows)))) [
  | true ↦ λ e. ap (λ n. take n (row ∷ rows)) (more (leading x rows)) ∙ (λ i. head row.path row.cell e i ∷ run-below x rows i) ∙ sym (ap (λ n. below x (from_depth 1 (take n (row ∷ rows)))) (more (leading x rows)))
  | false ↦ λ e. refl
] refl
  where
    more : (n : ℕ) → 1 + n ≡ suc n
    more n = omega arith

    head : (p : List Step) (c : Cell) → begins x p ≡ true → (let r : Row = record { path = p; cell = c } in r) ≡ record { path = x ∷ drop 1 p; cell = c }
    head [] c e = cc
    head (y ∷ p) c e = ap (λ (z : Step). record { path = z ∷ p; cell = c }) (sym (same x y e))

-- each path begins with a later step
abbrev pub IsAfter : Step → List Step → Type 0
IsAfter x [] = ⊥
IsAfter x (y ∷ p) = step_cmp x y ≡ Less

abbrev pub AllAfter : Step → List Row → Type 0
AllAfter x [] = Unit {0}
AllAfter x (row ∷ rows) = IsAfter x row.path × AllAfter x rows

pub after-drop : (n : ℕ) (x : Step) (rows : List Row) → AllAfter x rows → AllAfter x (drop n rows)
after-drop zero x rows h = h
after-drop (suc n) x [] h = tt
after-drop (suc n) x (row ∷ rows) h = after-drop n x rows h.1

-- rows after a path with a later first step have a later first step
after-behind : (x y : Step) (q : List Step) (rows : List Row) → step_cmp x y ≡ Less → Behind (y ∷ q) rows → AllAfter x rows
after-behind x y q [] l h = tt
after-behind x y q (row ∷ rows) l h = (by_path row.path (first _ (below_all path_cmp (y ∷ q) (entries rows)) h), after-behind x y q rows l (behind-rest (y ∷ q) row rows h))
  where
    by_path : (p : List Step) → T (is_lt (path_cmp (y ∷ q) p)) → IsAfter x p
    by_path [] h = absurd h
    by_path (z ∷ p) h = elim (step_cmp y z) as (λ r. step_cmp y z ≡ r → T (is_lt (ordering_then r (path_cmp q p))) → step_cmp x z ≡ Less) [
      | Less ↦ λ e g. step_cmp-IsTotalOrder.trans x y z l e
      | Equal ↦ λ e g. ap (step_cmp x) (sym (step_cmp-IsAntisymmetric y z e)) ∙ l
      | Greater ↦ λ e g. absurd g
    ] refl h

-- after a path that begins with x, the rows after the run of x have later first steps
run-behind : (x : Step) (p : List Step) (rows : List Row) → Behind (x ∷ p) rows → Rising rows → AllAfter x (drop (leading x rows) rows)
run-behind x p [] h g = tt
run-behind x p (row ∷ rows) h g = elim (begins x row.path) as (λ b. begins x row.path ≡ b → AllAfter x (drop (if b then 1 + leading x rows else 0) (row ∷ rows))) [
  | true ↦ λ e. subst (λ n. AllAfter x (drop n (row ∷ rows))) (let q : suc (leading x rows) ≡ 1 + leading x rows = omega arith in q) (run-behind x p rows (behind-rest (x ∷ p) row rows h) (rising-rest row rows g))
  | false ↦ λ e. by_path row.path e (first _ (below_all path_cmp (x ∷ p) (entries rows)) h) (behind-first row rows g)
] refl
  where
    by_path : (q : List Step) → begins x q ≡ false → T (is_lt (path_cmp (x ∷ p) q)) → Behind q rows → IsAfter x q × AllAfter x rows
    by_path [] e h k = absurd h
    by_path (y ∷ q) e h k =
        let l : step_cmp x y ≡ Less = elim (step_cmp x y) as (λ r. is_eq r ≡ false → T (is_lt (ordering_then r (path_cmp p q))) → r ≡ Less) [ Less ↦ λ e g. refl | Equal ↦ λ e g. cc | Greater ↦ λ e g. absurd g ] e h in
        (l, after-behind x y q rows l k)

-- the rows after a run that is not empty begin with later steps
pub run-after : (x : Step) (row : Row) (rows : List Row) (p : List Step) → row.path ≡ x ∷ p → Rising (row ∷ rows) → AllAfter x (drop (leading x (row ∷ rows)) (row ∷ rows))
run-after x row rows p e h =
    let one : begins x row.path ≡ true = ap (begins x) e ∙ ap is_eq (tied_itself step_cmp-IsTotalOrder x) in
    subst (λ b. AllAfter x (drop (if b then 1 + leading x rows else 0) (row ∷ rows))) (sym one)
    (subst (λ n. AllAfter x (drop n (row ∷ rows))) (let q : suc (leading x rows) ≡ 1 + leading x rows = omega arith in q)
    (run-behind x p rows (subst (λ q. Behind q rows) e (behind-first row rows h)) (rising-rest row rows h)))

-- a run from a row that begins with the step is not empty
pub run-some : (x : Step) (row : Row) (rows : List Row) (p : List Step) → row.path ≡ x ∷ p → 1 ≤ leading x (row ∷ rows)
run-some x row rows p e = subst (λ b. 1 ≤ (if b then 1 + leading x rows else 0)) (sym (ap (begins x) e ∙ ap is_eq (tied_itself step_cmp-IsTotalOrder x))) (omega arith)

-- rows below a step that rise, rise below it
behind-unbelow : (x : Step) (q : List Step) (rows : List Row) → Behind (x ∷ q) (below x rows) → Behind q rows
behind-unbelow x q [] h = tt
behind-unbelow x q (row ∷ rows) h = both _ _ (subst (λ o. T (is_lt (ordering_then o (path_cmp q row.path)))) (tied_itself step_cmp-IsTotalOrder x) (first _ (below_all path_cmp (x ∷ q) (entries (below x rows))) h)) (behind-unbelow x q rows (behind-rest (x ∷ q) (record { path = x ∷ row.path; cell = row.cell }) (below x rows) h))

pub rising-unbelow : (x : Step) (rows : List Row) → Rising (below x rows) → Rising rows
rising-unbelow x [] h = tt
rising-unbelow x (row ∷ rows) h = both _ _ (behind-unbelow x row.path rows (behind-first (record { path = x ∷ row.path; cell = row.cell }) (below x rows) h)) (rising-unbelow x rows (rising-rest (record { path = x ∷ row.path; cell = row.cell }) (below x rows) h))
