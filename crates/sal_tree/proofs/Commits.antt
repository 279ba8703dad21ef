-- The operations of a commit, one after another with one stamp.
use Rattle.std.proofs.Common.{◌≡◌, ℕ, Bool, true, false, List, [], ◌∷◌, ◌++◌, ◌&&◌, ◌||◌, Option, Some, None, refl, ap, sym, ◌∙◌, if◌then◌else◌}
use Rattle.std.specs.Prelude.{is_some}
use Rattle.std.specs.List.{list_any}
use Rattle.std.specs.Option.{option_or}
use Rattle.sal_types.specs.declared.value.Store.{Store}
use Rattle.sal_types.specs.declared.value.Store.TheVariants.{Config, Oper}
use Rattle.sal_types.specs.declared.value.Step.{Step}
use Rattle.sal_types.specs.declared.value.Cell.{Cell}
use Rattle.sal_types.specs.declared.row.Row.{Row}
use Rattle.sal_types.specs.Prefix.{is_prefix}
use Rattle.sal_types.proofs.Prefixes.{IsPrefix-from_test}
use Rattle.sal_types.specs.Tree.{cell, has, under, IsAscending}
use Rattle.sal_types.proofs.Trees.{same_tree}
use Rattle.sal_rows.specs.declared.op.Act.{Act}
use Rattle.sal_rows.specs.declared.op.Act.TheVariants.{Put, Merge, Delete, Read}
use Rattle.sal_rows.specs.declared.op.Op.{Op}
use Rattle.sal_rows.specs.Apply.{act_setting, cell_by, cell_after, apply_ops, rows_of_act, same_store, setting, last_setting}
use Rattle.sal_rows.specs.Touch.{op_touches, touches}
use Rattle.sal_rows.proofs.Cells.{cell-filter, IsAscending-filter}
use Rattle.sal_rows.proofs.Changes.{cell-delete, cell-merge, cell-put}
use Rattle.sal_rows.proofs.Applied.{apply_ops-unique}
use Rattle.sal_node.specs.Tree.{Tree, IsGrove}
use Rattle.sal_tree.specs.Grow.{at, cell_in}
use Rattle.sal_tree.specs.Edit.{without}
use Rattle.sal_tree.specs.Rows.{rows_of}
use Rattle.sal_tree.specs.Follows.{Follows}
use Rattle.sal_tree.specs.Edit.{edit_by, edit, edits}
use Rattle.sal_tree.specs.Touched.{one_op}
use Rattle.sal_tree.proofs.Laws.{at-append}
use Rattle.sal_tree.proofs.Cells.{cell-rows_of, ascending-rows_of}
use Rattle.sal_tree.proofs.Follows.{Follows-then, Follows-by}
use Rattle.sal_tree.proofs.Edited.{sound-with_rows, sound-without}
use Rattle.sal_tree.proofs.Listed.{rows-with_rows, rows-without, rows-put_rows}
use Rattle.sal_tree.proofs.Touches.{IsLawful}

pub sound-act : (s : ℕ) (t : Tree) (p : List Step) (act : Act) → IsGrove t.kids → IsGrove (edit_by s t p act).kids
sound-act s t p (Put rows) h = sound-with_rows s (under rows p) (without s t p) (sound-without s t p h)
sound-act s t p (Merge rows) h = sound-with_rows s rows t h
sound-act s t p Delete h = sound-without s t p h
sound-act s t p Read h = h

pub sound-edit : (s : ℕ) (store : Store) (t : Tree) (op : Op) → IsGrove t.kids → IsGrove (edit s store t op).kids
sound-edit s store t op h = elim (same_store op.store store) as (λ b. IsGrove (if b then edit_by s t op.path op.act else t).kids) [ true ↦ sound-act s t op.path op.act h | false ↦ h ]

pub sound-edits : (s : ℕ) (store : Store) (ops : List Op) (t : Tree) → IsGrove t.kids → IsGrove (edits s store t ops).kids
sound-edits s store [] t h = h
sound-edits s store (op ∷ ops) t h = sound-edits s store ops (edit s store t op) (sound-edit s store t op h)

-- the rows of an act's puts and merges rise
abbrev pub AreRows : Act → Type 0
AreRows act = IsAscending (rows_of_act act)

abbrev pub AreLawful : List Op → Type 0
AreLawful [] = Unit {0}
AreLawful (op ∷ ops) = (IsLawful op.path op.act × AreRows op.act) × AreLawful ops

-- the cells after one act
pub cell-act : (s : ℕ) (t : Tree) (p : List Step) (act : Act) (r : List Step) → IsGrove t.kids → AreRows act → cell (rows_of (edit_by s t p act)) r ≡ cell_by (act_setting p act r) (cell (rows_of t) r)
cell-act s t p (Put rows) r h g = ap (λ l. cell l r) (rows-put_rows s t p rows h) ∙ cell-put p rows (rows_of t) r g
cell-act s t p (Merge rows) r h g = ap (λ l. cell l r) (rows-with_rows s rows t h) ∙ cell-merge p rows (rows_of t) r g
cell-act s t p Delete r h g = ap (λ l. cell l r) (rows-without s t p h) ∙ cell-delete p (rows_of t) r
cell-act s t p Read r h g = refl

cell-edit : (s : ℕ) (store : Store) (t : Tree) (op : Op) (r : List Step) → IsGrove t.kids → AreRows op.act → cell (rows_of (edit s store t op)) r ≡ cell_by (setting store op r) (cell (rows_of t) r)
cell-edit s store t op r h g = elim (same_store op.store store) as (λ b. cell (rows_of (if b then edit_by s t op.path op.act else t)) r ≡ cell_by (if b then act_setting op.path op.act r else None) (cell (rows_of t) r)) [ true ↦ cell-act s t op.path op.act r h g | false ↦ refl ]

cell_by-or : (a b : Option (Option Cell)) (c : Option Cell) → cell_by a (cell_by b c) ≡ cell_by (option_or a b) c
cell_by-or None b c = refl
cell_by-or (Some a) b c = refl

pub cell-edits : (s : ℕ) (store : Store) (ops : List Op) (t : Tree) (r : List Step) → IsGrove t.kids → AreLawful ops → cell (rows_of (edits s store t ops)) r ≡ cell_after (rows_of t) store ops r
cell-edits s store [] t r h g = refl
cell-edits s store (op ∷ ops) t r h g =
    cell-edits s store ops (edit s store t op) r (sound-edit s store t op h) g.1
    ∙ ap (cell_by (last_setting store ops r)) (cell-edit s store t op r h g.0.1)
    ∙ cell_by-or (last_setting store ops r) (setting store op r) (cell (rows_of t) r)

-- the rows of the tree after the operations
pub rows-edits : (s : ℕ) (store : Store) (ops : List Op) (t : Tree) → IsGrove t.kids → AreLawful ops → rows_of (edits s store t ops) ≡ apply_ops (rows_of t) store ops
rows-edits s store ops t h g = apply_ops-unique (rows_of t) store ops (rows_of (edits s store t ops)) (ascending-rows_of (edits s store t ops) (sound-edits s store ops t h)) (λ r. cell-edits s store ops t r h g)

-- the same node has the same rows below it
pub under-same : (t u : Tree) (q : List Step) → IsGrove t.kids → IsGrove u.kids → at (Some u) q ≡ at (Some t) q → under (rows_of u) q ≡ under (rows_of t) q
under-same t u q g h e = same_tree _ _ (IsAscending-filter (is_prefix q) (rows_of u) (ascending-rows_of u h)) (IsAscending-filter (is_prefix q) (rows_of t) (ascending-rows_of t g)) (λ r.
    cell-filter (is_prefix q) (rows_of u) r
    ∙ elim (is_prefix q r) as (λ b. is_prefix q r ≡ b → (if b then cell (rows_of u) r else None) ≡ (if b then cell (rows_of t) r else None)) [
      | true ↦ λ b. let w = IsPrefix-from_test q r b in
          cell-rows_of u h r ∙ ap (λ v. cell_in (at (Some u) v)) w.1 ∙ ap cell_in (at-append (Some u) q w.0) ∙ ap (λ o. cell_in (at o w.0)) e
          ∙ sym (cell-rows_of t g r ∙ ap (λ v. cell_in (at (Some t) v)) w.1 ∙ ap cell_in (at-append (Some t) q w.0))
      | false ↦ λ b. refl
    ] refl
    ∙ sym (cell-filter (is_prefix q) (rows_of t) r))

pub any_under : (q : List Step) (f : List Step → Bool) (rows : List Row) → list_any (λ row. is_prefix q row.path && f row.path) rows ≡ list_any (λ row. f row.path) (under rows q)
any_under q f [] = refl
any_under q f (row ∷ rows) = elim (is_prefix q row.path) as (λ b. ((b && f row.path) || list_any (λ row. is_prefix q row.path && f row.path) rows) ≡ list_any (λ row. f row.path) (if b then row ∷ under rows q else under rows q)) [
  | true ↦ ap (λ c. f row.path || c) (any_under q f rows)
  | false ↦ any_under q f rows
]

-- what an operation touches at a path hangs on the node there alone
op_touches-same : (t u : Tree) (op : Op) (q : List Step) → IsGrove t.kids → IsGrove u.kids → at (Some u) q ≡ at (Some t) q → op_touches (rows_of u) op q ≡ op_touches (rows_of t) op q
op_touches-same t u op q g h e = ap (λ b. has (rows_of_act op.act) q || b)
    (any_under q (λ r. is_some (act_setting op.path op.act r)) (rows_of u) ∙ ap (list_any (λ row. is_some (act_setting op.path op.act row.path))) (under-same t u q g h e) ∙ sym (any_under q (λ r. is_some (act_setting op.path op.act r)) (rows_of t)))

pub touches-same : (t u : Tree) (store : Store) (ops : List Op) (q : List Step) → IsGrove t.kids → IsGrove u.kids → at (Some u) q ≡ at (Some t) q → touches (rows_of u) store ops q ≡ touches (rows_of t) store ops q
touches-same t u store [] q g h e = refl
touches-same t u store (op ∷ ops) q g h e = λ i. (same_store op.store store && op_touches-same t u op q g h e i) || touches-same t u store ops q g h e i

pub itself : (store : Store) → same_store store store ≡ true
itself Config = refl
itself Oper = refl

-- the rows of the tree after one act
pub rows-act : (s : ℕ) (store : Store) (t : Tree) (p : List Step) (act : Act) → IsGrove t.kids → IsLawful p act → AreRows act → rows_of (edit_by s t p act) ≡ apply_ops (rows_of t) store (one_op store p act)
rows-act s store t p act h lawful rises =
    sym (ap (λ b. rows_of (if b then edit_by s t p act else t)) (itself store)) ∙ rows-edits s store (one_op store p act) t h ((lawful, rises), tt)

-- the cell after a transaction of one act
pub cell-one_op : (store : Store) (p : List Step) (act : Act) (before : List Row) (q : List Step) → cell_by (act_setting p act q) (cell before q) ≡ cell_after before store (one_op store p act) q
cell-one_op store p act before q = ap (λ b. cell_by (if b then act_setting p act q else None) (cell before q)) (sym (itself store))

-- A tree that follows the one before a commit's operations, and one that follows it by one more.
pub Follows-next : (P : ℕ → Type 0) (s : Store) (ops : List Op) (op : Op) (t u v : Tree) → IsGrove t.kids → IsGrove u.kids → same_store op.store s ≡ true → Follows P (touches (rows_of t) s ops) t u → Follows P (op_touches (rows_of u) op) u v
    → Follows P (touches (rows_of t) s (ops ++ op ∷ [])) t v
Follows-next P s ops op t u v g h same before next =
    Follows-by P (λ q. touches (rows_of t) s ops q || op_touches (rows_of u) op q) (touches (rows_of t) s (ops ++ op ∷ [])) t v (λ q.
    elim (touches (rows_of t) s ops q) as (λ b. touches (rows_of t) s ops q ≡ b → (b || op_touches (rows_of u) op q) ≡ (b || (op_touches (rows_of t) op q))) [
      | true ↦ λ b. refl
      | false ↦ λ b. op_touches-same t u op q g h (before.kept q b)
    ] refl
    ∙ sym (touches-more ops q))
    (Follows-then P (touches (rows_of t) s ops) (op_touches (rows_of u) op) t u v before next)
  where
    or_assoc : (a b c : Bool) → (a || (b || c)) ≡ ((a || b) || c)
    or_assoc true b c = refl
    or_assoc false b c = refl

    last_one : (b c : Bool) → b ≡ true → ((b && c) || false) ≡ c
    last_one true true e = refl
    last_one true false e = refl
    last_one false c e = cc

    touches-more : (os : List Op) (q : List Step) → touches (rows_of t) s (os ++ op ∷ []) q ≡ (touches (rows_of t) s os q || op_touches (rows_of t) op q)
    touches-more [] q = last_one (same_store op.store s) (op_touches (rows_of t) op q) same
    touches-more (o ∷ os) q = ap (λ b. (same_store o.store s && op_touches (rows_of t) o q) || b) (touches-more os q) ∙ or_assoc (same_store o.store s && op_touches (rows_of t) o q) (touches (rows_of t) s os q) (op_touches (rows_of t) op q)
