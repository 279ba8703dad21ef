-- A tree with a node built from rows in place of the one at a path.
use Rattle.std.proofs.Common.{◌≡◌, ℕ, ◌<◌, ◌≤◌, Bool, true, false, List, [], ◌∷◌, ◌++◌, ◌&&◌, ◌||◌, length, drop, Some, None, refl, ap, sym, ◌∙◌, subst, if◌then◌else◌, append_assoc, arith}
use Rattle.std.proofs.lemmas.Bool.{or_parts, and_parts}
use Rattle.std.specs.List.{list_all}
use Rattle.std.specs.Ordering.{is_eq, ordering_then}
use Rattle.std.specs.declared.cmp.Ordering.TheVariants.{Less, Equal, Greater}
use Rattle.sal_types.specs.declared.value.Step.{Step}
use Rattle.sal_types.specs.declared.value.Store.{Store}
use Rattle.sal_types.specs.declared.row.Row.{Row}
use Rattle.sal_types.specs.Order.{step_cmp, path_cmp, path_eq}
use Rattle.sal_types.specs.Prefix.{is_prefix}
use Rattle.sal_types.proofs.Prefixes.{IsPrefix-from_test, is_prefix-append}
use Rattle.sal_types.specs.Tree.{cell, has, under, IsAscending}
use Rattle.sal_types.proofs.Trees.{IsTrue-from_T, T-from_IsTrue}
use Rattle.sal_rows.specs.declared.op.Act.TheVariants.{Put}
use Rattle.sal_rows.specs.Apply.{act_setting, cell_by, apply_ops}
use Rattle.sal_rows.proofs.Applied.{apply_ops-unique}
use Rattle.sal_node.specs.Tree.{Tree, IsGrove, height}
use Rattle.sal_tree.specs.Grow.{at, cell_in, kid, grow, present}
use Rattle.sal_tree.specs.Edit.{root_of}
use Rattle.sal_tree.specs.Rows.{rows_of, from_depth, from_path}
use Rattle.sal_tree.specs.Follows.{Follows, exactly}
use Rattle.sal_tree.specs.Touched.{act_touches, one_op}
use Rattle.sal_tree.specs.Built.{IsBuilt}
use Rattle.sal_tree.specs.Whole.{IsWhole}
use Rattle.sal_tree.proofs.Laws.{eq, self_tie, IsFull, at-append, at-end, at-beside, full-grow, full-kid, sound-full, is_prefix-self}
use Rattle.sal_tree.proofs.Cells.{cell-rows_of, ascending-rows_of, has-rows_of}
use Rattle.sal_tree.proofs.Follows.{Follows-by}
use Rattle.sal_tree.proofs.Edited.{at-root_of, stamped-grown, clears, present-full, full-at, sound-root_of}
use Rattle.sal_tree.proofs.Listed.{cell-root_of, cell-above}
use Rattle.sal_tree.proofs.Touches.{both_begin, clears-any, set_by_put}
use Rattle.sal_tree.proofs.Commits.{cell-one_op}
use Rattle.sal_tree.proofs.Heights.{low-grown}
use Rattle.sal_tree.proofs.Parts.{Rising, all-filter}
use Rattle.sal_tree.proofs.Runs.{rising-unbelow}
use Rattle.sal_tree.proofs.Wholes.{from_path-root, from_path-below}
use Rattle.sal_tree.proofs.Builds.{filled-rows}

then_eq : (y x : Step) (p q : List Step) → path_eq (y ∷ p) (x ∷ q) ≡ (eq y x && path_eq p q)
then_eq y x p q = elim (step_cmp y x) as (λ o. is_eq (ordering_then o (path_cmp p q)) ≡ (is_eq o && path_eq p q)) [ Less ↦ refl | Equal ↦ refl | Greater ↦ refl ]

eq_behind : (p w v : List Step) → path_eq (p ++ w) (p ++ v) ≡ path_eq w v
eq_behind [] w v = refl
eq_behind (x ∷ p) w v = then_eq x x (p ++ w) (p ++ v) ∙ ap (λ b. b && path_eq (p ++ w) (p ++ v)) (self_tie x) ∙ eq_behind p w v

prefix_behind : (p w v : List Step) → is_prefix (p ++ w) (p ++ v) ≡ is_prefix w v
prefix_behind [] w v = refl
prefix_behind (x ∷ p) w v = ap (λ b. b && is_prefix (p ++ w) (p ++ v)) (self_tie x) ∙ prefix_behind p w v

drop_front : (p w : List Step) → drop (length p) (p ++ w) ≡ w
drop_front [] w = refl
drop_front (x ∷ p) w = drop_front p w

abbrev AllUnder : List Step → List Row → Type 0
AllUnder p rows = list_all (λ row. is_prefix p row.path) rows ≡ true

-- the rest of a path after a prefix
rest_of : (p r : List Step) → is_prefix p r ≡ true → r ≡ p ++ drop (length p) r
rest_of p r e = let w = IsPrefix-from_test p r e in w.1 ∙ ap (λ v. p ++ v) (sym (drop_front p w.0) ∙ ap (drop (length p)) (sym w.1))

-- the rows of the built node are those at the path and below it
cell-behind : (p w : List Step) (rows : List Row) → AllUnder p rows → cell rows (p ++ w) ≡ cell (from_depth (length p) rows) w
cell-behind p w [] h = refl
cell-behind p w (row ∷ rows) h =
    (λ i. if path_eq (p ++ w) (rest_of p row.path (and_parts _ _ h).0 i) then Some row.cell else cell-behind p w rows (and_parts (is_prefix p row.path) _ h).1 i)
    ∙ ap (λ b. if b then Some row.cell else cell (from_depth (length p) rows) w) (eq_behind p w (drop (length p) row.path))

has-behind : (p w : List Step) (rows : List Row) → AllUnder p rows → has rows (p ++ w) ≡ has (from_depth (length p) rows) w
has-behind p w [] h = refl
has-behind p w (row ∷ rows) h =
    (λ i. is_prefix (p ++ w) (rest_of p row.path (and_parts _ _ h).0 i) || has-behind p w rows (and_parts (is_prefix p row.path) _ h).1 i)
    ∙ ap (λ b. b || has (from_depth (length p) rows) w) (prefix_behind p w (drop (length p) row.path))

-- no row is at or below a path that is neither prefix nor extension of this one, and each prefix of it has a row below
beside-rows : (p q : List Step) (rows : List Row) → AllUnder p rows → is_prefix p q ≡ false → is_prefix q p ≡ false → has rows q ≡ false
beside-rows p q [] h a b = refl
beside-rows p q (row ∷ rows) h a b = (λ i. none (is_prefix q row.path) refl i || beside-rows p q rows (and_parts (is_prefix p row.path) _ h).1 a b i)
  where
    none : (c : Bool) → is_prefix q row.path ≡ c → c ≡ false
    none false e = refl
    none true e =
        let two : (is_prefix q row.path && is_prefix p row.path) ≡ true = (λ i. e i && (and_parts (is_prefix p row.path) _ h).0 i) in
        let no : ((is_prefix p q && is_prefix q row.path) || (is_prefix q p && is_prefix p row.path)) ≡ false = (λ i. (a i && is_prefix q row.path) || (b i && is_prefix p row.path)) in
        let both = both_begin p q row.path in cc

above-rows : (p q : List Step) (row : Row) (rows : List Row) → AllUnder p (row ∷ rows) → is_prefix q p ≡ true → has (row ∷ rows) q ≡ true
above-rows p q row rows h e =
    let v = IsPrefix-from_test q p e in
    let w = IsPrefix-from_test p row.path (and_parts _ _ h).0 in
    ap (λ b. b || has rows q) (ap (is_prefix q) (w.1 ∙ ap (λ r. r ++ w.0) v.1 ∙ append_assoc q v.0 w.0) ∙ is_prefix-append q (v.0 ++ w.0))

module _ (s : ℕ) (t : Tree) (p : List Step) (row : Row) (rest : List Row) (b : Tree) (h : IsGrove t.kids) (lie : under (row ∷ rest) p ≡ row ∷ rest) (built : IsBuilt s (length p) (from_depth (length p) (row ∷ rest)) b) where
  abbrev u : Tree
  u = root_of s (grow s (Some t) p (Some b))

  all_under : AllUnder p (row ∷ rest)
  all_under = all-filter (λ row. is_prefix p row.path) (row ∷ rest) lie

  full : IsFull (Some b)
  full = (filled-rows b.cell b.kids _ _ built.listed, built.ordered)

  pub sound-put : IsGrove (root_of s (grow s (Some t) p (Some b))).kids
  sound-put = sound-root_of s _ (sound-full _ (full-grow s (Some t) p (Some b) h full))

  pub whole-put : height t.kids ≤ 32 → length p ≤ 32 → IsWhole (root_of s (grow s (Some t) p (Some b)))
  whole-put low l = record { ordered = sound-put; low = low-grown s t p (Some b) low l (let g = built.low in omega arith) }

  -- at the path and below it are the built nodes
  at-put : (p w : List Step) → at (Some (root_of s (grow s (Some t) p (Some b)))) (p ++ w) ≡ at (Some b) w
  at-put [] w = refl
  at-put (x ∷ p) w = at-root_of s (grow s (Some t) (x ∷ p) (Some b)) x (p ++ w) ∙ at-append (grow s (Some t) (x ∷ p) (Some b)) (x ∷ p) w ∙ ap (λ o. at o w) (at-end s (Some t) (x ∷ p) (Some b) h)

  at-under : (q : List Step) → (e : is_prefix p q ≡ true) → at (Some (root_of s (grow s (Some t) p (Some b)))) q ≡ at (Some b) (drop (length p) q)
  at-under q e = ap (at (Some (root_of s (grow s (Some t) p (Some b))))) (rest_of p q e) ∙ at-put p (drop (length p) q)

  cell-outside : (q : List Step) → is_prefix p q ≡ false → cell_in (at (Some (root_of s (grow s (Some t) p (Some b)))) q) ≡ cell_in (at (Some t) q)
  cell-outside q e = cell-root_of s (grow s (Some t) p (Some b)) q ∙ elim (is_prefix q p) as (λ c. is_prefix q p ≡ c → cell_in (at (grow s (Some t) p (Some b)) q) ≡ cell_in (at (Some t) q)) [
    | true ↦ λ c. let w = IsPrefix-from_test q p c in by_rest w.0 w.1
    | false ↦ λ c. ap cell_in (at-beside s (Some t) p q (Some b) h e c)
  ] refl
    where
      by_rest : (r : List Step) → p ≡ q ++ r → cell_in (at (grow s (Some t) p (Some b)) q) ≡ cell_in (at (Some t) q)
      by_rest [] f = let yes = is_prefix-self q p f in cc
      by_rest (y ∷ r) f = ap (λ v. cell_in (at (grow s (Some t) v (Some b)) q)) f ∙ cell-above s (Some t) q y r (Some b) h

  pub cell-put : (q : List Step) → cell (rows_of (root_of s (grow s (Some t) p (Some b)))) q ≡ cell_by (act_setting p (Put (row ∷ rest)) q) (cell (rows_of t) q)
  cell-put q = cell-rows_of u sound-put q ∙ elim (is_prefix p q) as (λ c. is_prefix p q ≡ c → cell_in (at (Some (root_of s (grow s (Some t) p (Some b)))) q) ≡ cell_by (if c then Some (cell (row ∷ rest) q) else None) (cell (rows_of t) q)) [
    | true ↦ λ c.
        ap cell_in (at-under q c) ∙ sym (cell-rows_of b built.ordered (drop (length p) q)) ∙ ap (λ l. cell l (drop (length p) q)) built.listed
        ∙ sym (ap (cell (row ∷ rest)) (rest_of p q c) ∙ cell-behind p (drop (length p) q) (row ∷ rest) all_under)
    | false ↦ λ c. cell-outside q c ∙ sym (cell-rows_of t h q)
  ] refl

  pub rows-put : (store : Store) → rows_of (root_of s (grow s (Some t) p (Some b))) ≡ apply_ops (rows_of t) store (one_op store p (Put (row ∷ rest)))
  rows-put store = apply_ops-unique (rows_of t) store (one_op store p (Put (row ∷ rest))) (rows_of u) (ascending-rows_of u sound-put) (λ q. cell-put q ∙ cell-one_op store p (Put (row ∷ rest)) (rows_of t) q)

  -- there is no node where no row is put and none was before
  none_built : (q : List Step) → is_prefix p q ≡ true → has (row ∷ rest) q ≡ false → at (Some b) (drop (length p) q) ≡ None
  none_built q e f = present-full (at (Some b) (drop (length p) q)) (full-at (Some b) (drop (length p) q) full)
      (sym (has-rows_of b built.ordered (drop (length p) q)) ∙ ap (λ l. has l (drop (length p) q)) built.listed ∙ sym (ap (has (row ∷ rest)) (rest_of p q e) ∙ has-behind p (drop (length p) q) (row ∷ rest) all_under) ∙ f)

  beside : (q : List Step) → is_prefix q p ≡ false → is_prefix p q ≡ false → at (Some (root_of s (grow s (Some t) p (Some b)))) q ≡ at (Some t) q
  beside [] a c = cc
  beside (x ∷ q) a c = at-root_of s _ x q ∙ at-beside s (Some t) p (x ∷ q) (Some b) h c a

  none_before : (q : List Step) → is_prefix q p ≡ false → present (at (Some t) q) ≡ false → at (Some t) q ≡ None
  none_before [] a e = cc
  none_before (x ∷ q) a e = present-full (at (Some t) (x ∷ q)) (full-at (kid (Some t) x) q (full-kid (Some t) x h)) e

  and_right : (a b : Bool) → a ≡ true → (a && b) ≡ false → b ≡ false
  and_right true b e f = f
  and_right false b e f = cc

  stamped_at : (q : List Step) (n : Tree) → (has (row ∷ rest) q || clears p t q) ≡ true → at (Some (root_of s (grow s (Some t) p (Some b)))) q ≡ Some n → n.stamp ≡ s
  stamped_at q n e stands = elim (is_prefix q p) as (λ a. is_prefix q p ≡ a → n.stamp ≡ s) [
    | true ↦ λ a. stamped-grown s t p q (Some b) h (λ m f. built.stamped [] m f) a n stands
    | false ↦ λ a. elim (is_prefix p q) as (λ c. is_prefix p q ≡ c → n.stamp ≡ s) [
      | true ↦ λ c. built.stamped (drop (length p) q) n (sym (at-under q c) ∙ stands)
      | false ↦ λ c. let no : (has (row ∷ rest) q || clears p t q) ≡ false = (λ i. beside-rows p q (row ∷ rest) all_under c a i || ((c i && present (at (Some t) q)) || (a i && present (at (Some t) p)))) in cc
    ] refl
  ] refl

  kept_at : (q : List Step) → (has (row ∷ rest) q || clears p t q) ≡ false → at (Some (root_of s (grow s (Some t) p (Some b)))) q ≡ at (Some t) q
  kept_at q e = elim (is_prefix q p) as (λ a. is_prefix q p ≡ a → at (Some (root_of s (grow s (Some t) p (Some b)))) q ≡ at (Some t) q) [
    | true ↦ λ a. let yes = above-rows p q row rest all_under a in let no = (or_parts (has (row ∷ rest) q) (clears p t q) e).0 in cc
    | false ↦ λ a. elim (is_prefix p q) as (λ c. is_prefix p q ≡ c → at (Some (root_of s (grow s (Some t) p (Some b)))) q ≡ at (Some t) q) [
      | true ↦ λ c.
          let gone = and_right (is_prefix p q) (present (at (Some t) q)) c (or_parts (is_prefix p q && present (at (Some t) q)) _ (or_parts (has (row ∷ rest) q) (clears p t q) e).1).0 in
          at-under q c ∙ none_built q c (or_parts (has (row ∷ rest) q) (clears p t q) e).0 ∙ sym (none_before q a gone)
      | false ↦ λ c. beside q a c
    ] refl
  ] refl

  pub Follows-built : Follows (exactly s) (act_touches (rows_of t) p (Put (row ∷ rest))) t (root_of s (grow s (Some t) p (Some b)))
  Follows-built = Follows-by (exactly s) (λ q. has (row ∷ rest) q || clears p t q) (act_touches (rows_of t) p (Put (row ∷ rest))) t u
      (λ q. ap (λ c. has (row ∷ rest) q || c) (clears-any t p q (λ r. act_setting p (Put (row ∷ rest)) r) (λ r. set_by_put (is_prefix p r) (cell (row ∷ rest) r)) h))
      (record { stamped = stamped_at; kept = kept_at })

-- The tree after a put of rows.
pub record IsPut (s : ℕ) (t : Tree) (p : List Step) (rows : List Row) (v : Tree) : Type 0 where
  pub whole : IsWhole v
  pub cells : (q : List Step) → cell (rows_of v) q ≡ cell_by (act_setting p (Put rows) q) (cell (rows_of t) q)
  pub listed : (store : Store) → rows_of v ≡ apply_ops (rows_of t) store (one_op store p (Put rows))
  pub stamps : Follows (exactly s) (act_touches (rows_of t) p (Put rows)) t v

pub put-built : (s : ℕ) (t : Tree) (p steps : List Step) (rows : List Row) (b v : Tree) → IsWhole t → length p ≤ 32 → steps ≡ p → 0 < length rows → under rows p ≡ rows → IsBuilt s (length steps) (from_depth (length steps) rows) b
    → v ≡ root_of s (grow s (Some t) p (Some b)) → IsPut s t p rows v
put-built s t p steps [] b v h l same some lie built is = absurd (omega arith)
put-built s t p steps (row ∷ rest) b v h l same some lie built is =
    let here = subst (λ q. IsBuilt s (length q) (from_depth (length q) (row ∷ rest)) b) same built in
    subst (IsPut s t p (row ∷ rest)) (sym is) (record {
      whole = whole-put s t p row rest b h.ordered lie here h.low l;
      cells = cell-put s t p row rest b h.ordered lie here;
      listed = rows-put s t p row rest b h.ordered lie here;
      stamps = Follows-built s t p row rest b h.ordered lie here;
    })

-- rows at a path and below it that rise, rise from there on
from_path-behind : (p : List Step) (rows : List Row) → AllUnder p rows → rows ≡ from_path p (from_depth (length p) rows)
from_path-behind p [] h = refl
from_path-behind p (row ∷ rows) h = λ i. record { path = rest_of p row.path (and_parts _ _ h).0 i; cell = row.cell } ∷ from_path-behind p rows (and_parts (is_prefix p row.path) _ h).1 i

rising-unpath : (p : List Step) (rows : List Row) → Rising (from_path p rows) → Rising rows
rising-unpath [] rows h = subst Rising (from_path-root rows) h
rising-unpath (x ∷ p) rows h = rising-unpath p rows (rising-unbelow x (from_path p rows) (subst Rising (from_path-below x p rows) h))

pub rising-behind : (p steps : List Step) (rows : List Row) → steps ≡ p → under rows p ≡ rows → IsAscending rows → IsAscending (from_depth (length steps) rows)
rising-behind p steps rows same lie h = subst (λ q. IsAscending (from_depth (length q) rows)) (sym same)
    (IsTrue-from_T _ (rising-unpath p (from_depth (length p) rows) (subst Rising (from_path-behind p rows (all-filter (λ row. is_prefix p row.path) rows lie)) (T-from_IsTrue _ h))))
