-- In the order of paths, the rows at a path and below it are adjacent.
use Rattle.std.proofs.Common.{◌≡◌, suc, ◌+◌, Bool, true, false, List, [], ◌∷◌, take, drop, cond, refl, ap, sym, ◌∙◌, arith}
use Rattle.std.specs.Prelude.{not, ◌&&◌}
use Rattle.std.specs.List.{prefix_len, position_or_len}
use Rattle.std.specs.Ordering.{is_lt, is_eq, ordering_then, ordering_reverse, eq_by_cmp}
use Rattle.std.specs.declared.cmp.Ordering.TheVariants.{Less, Equal, Greater}
use Rattle.std.specs.Cmp.{first_so, second_so, tied_back, Equal-is}
use Rattle.std.specs.FinMap.{is_sorted}
use Rattle.std.specs.FinMap.Entries.{below_all}
use Rattle.sal_types.specs.declared.value.Step.{Step}
use Rattle.sal_types.specs.declared.row.Row.{Row}
use Rattle.sal_types.specs.Order.{step_cmp, step_cmp-IsTotalOrder, step_cmp-IsAntisymmetric, path_cmp}
use Rattle.sal_types.specs.Prefix.{is_prefix}
use Rattle.sal_types.specs.Tree.{entries, IsAscending, under}
use Rattle.sal_data.proofs.Fronts.{less}

-- what is between two paths below p is below p
between : (p x y z : List Step) → is_prefix p x ≡ true → path_cmp x y ≡ Less → path_cmp y z ≡ Less → is_prefix p z ≡ true → is_prefix p y ≡ true
between [] x y z below up on above = refl
between (s ∷ p) [] y z below up on above = cc
between (s ∷ p) (a ∷ x) [] z below up on above = cc
between (s ∷ p) (a ∷ x) (b ∷ y) [] below up on above = cc
between (s ∷ p) (a ∷ x) (b ∷ y) (c ∷ z) below up on above =
    let first : s ≡ a = step_cmp-IsAntisymmetric s a ((Equal-is _).0 (first_so (eq_by_cmp step_cmp s a) (is_prefix p x) below)) in
    let last : s ≡ c = step_cmp-IsAntisymmetric s c ((Equal-is _).0 (first_so (eq_by_cmp step_cmp s c) (is_prefix p z) above)) in
    let up' : ordering_then (step_cmp s b) (path_cmp x y) ≡ Less = ap (λ (t : Step). ordering_then (step_cmp t b) (path_cmp x y)) first ∙ up in
    let on' : ordering_then (step_cmp b s) (path_cmp y z) ≡ Less = ap (λ (t : Step). ordering_then (step_cmp b t) (path_cmp y z)) last ∙ on in
    elim (step_cmp s b) as (λ o. step_cmp s b ≡ o → ordering_then o (path_cmp x y) ≡ Less → (is_eq o && is_prefix p y) ≡ true) [
      | Less ↦ λ e u.
          let back : step_cmp b s ≡ Greater = step_cmp-IsTotalOrder.antisymm b s ∙ ap ordering_reverse e in
          let no : Greater ≡ Less = ap (λ o. ordering_then o (path_cmp y z)) (sym back) ∙ on' in
          cc
      | Equal ↦ λ e u.
          let back : step_cmp b s ≡ Equal = tied_back step_cmp-IsTotalOrder s b e in
          let on'' : path_cmp y z ≡ Less = ap (λ o. ordering_then o (path_cmp y z)) (sym back) ∙ on' in
          between p x y z (second_so (eq_by_cmp step_cmp s a) _ below) u on'' (second_so (eq_by_cmp step_cmp s c) _ above)
      | Greater ↦ λ e u. cc
    ] refl up'

abbrev is_under : List Step → Row → Bool
is_under p row = is_prefix p row.path

-- after a row that is not below p, none is, where one before it is
none_behind : (p : List Step) (x y : Row) (rows : List Row) → is_under p x ≡ true → path_cmp x.path y.path ≡ Less → is_under p y ≡ false → below_all path_cmp y.path (entries rows) ≡ true → under rows p ≡ []
none_behind p x y [] here up not_here rising = refl
none_behind p x y (z ∷ rows) here up not_here rising =
    let on = less _ (first_so (is_lt (path_cmp y.path z.path)) _ rising) in
    elim (is_under p z) as (λ b. is_under p z ≡ b → cond b (z ∷ under rows p) (under rows p) ≡ []) [
      | true ↦ λ e. let yes : is_under p y ≡ true = between p x.path y.path z.path here up on e in cc
      | false ↦ λ e. none_behind p x y rows here up not_here (second_so (is_lt (path_cmp y.path z.path)) _ rising)
    ] refl

-- after a row below p, those below p come first
front_behind : (p : List Step) (x : Row) (rows : List Row) → is_under p x ≡ true → is_sorted path_cmp (entries (x ∷ rows)) ≡ true → under rows p ≡ take (prefix_len (is_under p) rows) rows
front_behind p x [] here rising = refl
front_behind p x (y ∷ rows) here rising =
    let n = prefix_len (is_under p) rows in
    let tail = second_so (below_all path_cmp x.path (entries (y ∷ rows))) _ rising in
    let up = less _ (first_so (is_lt (path_cmp x.path y.path)) _ (first_so (below_all path_cmp x.path (entries (y ∷ rows))) _ rising)) in
    elim (is_under p y) as (λ b. is_under p y ≡ b → cond b (y ∷ under rows p) (under rows p) ≡ take (cond b (1 + n) 0) (y ∷ rows)) [
      | true ↦ λ e.
          let one : suc n ≡ 1 + n = omega arith in
          ap (λ (rs : List Row). y ∷ rs) (front_behind p y rows e tail) ∙ ap (λ m. take m (y ∷ rows)) one
      | false ↦ λ e. none_behind p x y rows here up e (first_so (below_all path_cmp y.path (entries rows)) _ tail)
    ] refl

-- the rows below p, from the first of them on
abbrev pub from_first : List Step → List Row → List Row
from_first p rows = drop (position_or_len (is_under p) rows) rows

pub under_is : (p : List Step) (rows : List Row) → IsAscending rows → under rows p ≡ take (prefix_len (is_under p) (from_first p rows)) (from_first p rows)
under_is p [] rising = refl
under_is p (x ∷ rows) rising =
    let n = position_or_len (is_under p) rows in
    let m = prefix_len (is_under p) rows in
    elim (is_under p x) as (λ b. is_under p x ≡ b → cond b (x ∷ under rows p) (under rows p) ≡ take (prefix_len (is_under p) (drop (cond (not b) (1 + n) 0) (x ∷ rows))) (drop (cond (not b) (1 + n) 0) (x ∷ rows))) [
      | true ↦ λ e.
          let all : suc m ≡ prefix_len (is_under p) (x ∷ rows) = (let one : suc m ≡ 1 + m = omega arith in one) ∙ ap (λ b. cond b (1 + m) 0) (sym e) in
          ap (λ (rs : List Row). x ∷ rs) (front_behind p x rows e rising) ∙ ap (λ k. take k (x ∷ rows)) all
      | false ↦ λ e.
          let one : suc n ≡ 1 + n = omega arith in
          under_is p rows (second_so (below_all path_cmp x.path (entries rows)) _ rising) ∙ ap (λ k. take (prefix_len (is_under p) (drop k (x ∷ rows))) (drop k (x ∷ rows))) one
    ] refl
