-- Rows of a list and the cells that it has.
use Rattle.std.proofs.Common.{◌≡◌, Bool, true, false, ◌||◌, List, [], ◌∷◌, ◌++◌, Option, Some, None, refl, sym, ap, ◌∙◌, if◌then◌else◌}
use Rattle.std.specs.Prelude.{is_some}
use Rattle.std.specs.List.{list_all}
use Rattle.std.specs.Cmp.{first_so, second_so}
use Rattle.std.specs.FinMap.{is_sorted}
use Rattle.std.specs.FinMap.Entries.{below_all}
use Rattle.std.proofs.lemmas.Bool.{and_parts, and_from}
use Rattle.sal_types.specs.declared.value.Store.{Store}
use Rattle.sal_types.specs.declared.value.Step.{Step}
use Rattle.sal_types.specs.declared.value.Cell.{Cell}
use Rattle.sal_types.specs.declared.row.Row.{Row}
use Rattle.sal_types.specs.Order.{path_cmp, path_eq}
use Rattle.sal_types.specs.Prefix.{is_prefix}
use Rattle.sal_types.specs.Tree.{entries, cell, has, IsAscending}
use Rattle.sal_types.proofs.Trees.{same_tree}
use Rattle.sal_rows.specs.declared.op.Act.{Act}
use Rattle.sal_rows.specs.declared.op.Act.TheVariants.{Put, Merge, Delete, Read}
use Rattle.sal_rows.specs.declared.op.Op.{Op}
use Rattle.sal_rows.specs.Apply.{same_store, act_setting, cell_by, is_read, setting, apply_ops}
use Rattle.sal_rows.proofs.Applied.{cell_after_push, cell-apply_ops, IsAscending-apply_ops, setting-same, setting-other}
use Rattle.sal_rows.proofs.Cells.{same_path, path_eq-itself, cell_before}
use Rattle.sal_rows.proofs.Untouched.{no_cell}
pub use Rattle.sal_rows.proofs.Quiet.{same_stores}

pub nothing : {X : Type 0} {x : X} → None ≡ Some x → ⊥
nothing e = cc

pub some_there : {X : Type 0} (o : Option X) → is_some o ≡ true → (x : X) × (o ≡ Some x)
some_there None e = cc
some_there (Some x) e = (x, refl)

-- ---- rows and cells

-- a property of each row is one of each cell
pub at_cell : (t : Row → Bool) (rows : List Row) (r : List Step) (c : Cell) → list_all t rows ≡ true → cell rows r ≡ Some c → t (record { path = r; cell = c }) ≡ true
at_cell t [] r c all e = absurd (nothing e)
at_cell t (x ∷ rows) r c all e =
    let (here, rest) = and_parts (t x) (list_all t rows) all in
    elim (path_eq r x.path) as (λ b. path_eq r x.path ≡ b → (if b then Some x.cell else cell rows r) ≡ Some c → t (record { path = r; cell = c }) ≡ true) [
      | true ↦ λ is f. let of : x.cell ≡ c = cc in ap t (λ i. record { path = same_path r x.path is i; cell = sym of i }) ∙ here
      | false ↦ λ is f. at_cell t rows r c rest f
    ] refl e

-- and conversely, since the paths of a tree differ
pub at_rows : (t : Row → Bool) (rows : List Row) → IsAscending rows → ((r : List Step) (c : Cell) → cell rows r ≡ Some c → t (record { path = r; cell = c }) ≡ true) → list_all t rows ≡ true
at_rows t [] rising all = refl
at_rows t (x ∷ rows) rising all =
    let above = first_so (below_all path_cmp x.path (entries rows)) (is_sorted path_cmp (entries rows)) rising in
    let rest = second_so (below_all path_cmp x.path (entries rows)) (is_sorted path_cmp (entries rows)) rising in
    and_from (t x) (list_all t rows) (all x.path x.cell (ap (λ b. if b then Some x.cell else cell rows x.path) (path_eq-itself x.path)))
    (at_rows t rows rest (λ r c e. all r c (later above r c e)))
  where
    later : below_all path_cmp x.path (entries rows) ≡ true → (r : List Step) (c : Cell) → cell rows r ≡ Some c → (if path_eq r x.path then Some x.cell else cell rows r) ≡ Some c
    later above r c e =
        elim (path_eq r x.path) as (λ b. path_eq r x.path ≡ b → (if b then Some x.cell else cell rows r) ≡ Some c) [
          | true ↦ λ is. absurd (nothing (sym (ap (cell rows) (same_path r x.path is) ∙ cell_before x.path rows above) ∙ e))
          | false ↦ λ is. e
        ] refl

-- if there is a row at or below a path there is a cell
pub stands_below : (rows : List Row) (q : List Step) → has rows q ≡ true → (r : List Step) × (c : Cell) × (is_prefix q r ≡ true) × (cell rows r ≡ Some c)
stands_below [] q e = cc
stands_below (x ∷ rows) q e =
    elim (is_prefix q x.path) as (λ b. is_prefix q x.path ≡ b → (b || has rows q) ≡ true → (r : List Step) × (c : Cell) × (is_prefix q r ≡ true) × (cell (x ∷ rows) r ≡ Some c)) [
      | true ↦ λ is h. (x.path, x.cell, is, ap (λ b. if b then Some x.cell else cell rows x.path) (path_eq-itself x.path))
      | false ↦ λ is h. let (r, c, below, f) = stands_below rows q h in by r c below f
    ] refl e
  where
    by : (r : List Step) (c : Cell) → is_prefix q r ≡ true → cell rows r ≡ Some c → (s : List Step) × (d : Cell) × (is_prefix q s ≡ true) × ((if path_eq s x.path then Some x.cell else cell rows s) ≡ Some d)
    by r c below f =
        elim (path_eq r x.path) as (λ b. path_eq r x.path ≡ b → (s : List Step) × (d : Cell) × (is_prefix q s ≡ true) × ((if path_eq s x.path then Some x.cell else cell rows s) ≡ Some d)) [
          | true ↦ λ is. (r, x.cell, below, ap (λ b. if b then Some x.cell else cell rows r) is)
          | false ↦ λ is. (r, c, below, ap (λ b. if b then Some x.cell else cell rows r) is ∙ f)
        ] refl

pub has_where : (rows : List Row) (q r : List Step) (c : Cell) → cell rows r ≡ Some c → is_prefix q r ≡ true → has rows q ≡ true
has_where rows q r c e below =
    elim (has rows q) as (λ b. has rows q ≡ b → b ≡ true) [
      | true ↦ λ h. refl
      | false ↦ λ h. absurd (nothing (sym (no_cell (is_prefix q) rows r h below) ∙ e))
    ] refl

-- ---- one operation more

pub cell-next : (tree : List Row) (s : Store) (ops : List Op) (op : Op) (r : List Step) → cell (apply_ops tree s (ops ++ op ∷ [])) r ≡ cell_by (setting s op r) (cell (apply_ops tree s ops) r)
cell-next tree s ops op r = cell-apply_ops tree s (ops ++ op ∷ []) r ∙ cell_after_push tree s ops op r ∙ ap (cell_by (setting s op r)) (sym (cell-apply_ops tree s ops r))

pub cell-mine : (tree : List Row) (s : Store) (ops : List Op) (op : Op) → same_store op.store s ≡ true → (r : List Step) → cell (apply_ops tree s (ops ++ op ∷ [])) r ≡ cell_by (act_setting op.path op.act r) (cell (apply_ops tree s ops) r)
cell-mine tree s ops op mine r = cell-next tree s ops op r ∙ ap (λ x. cell_by x (cell (apply_ops tree s ops) r)) (setting-same s op r mine)

-- a read sets no path
pub setting-read : (s : Store) (op : Op) (r : List Step) → is_read op.act ≡ true → setting s op r ≡ None
setting-read s op r reads = elim (same_store op.store s) as (λ b. (if b then act_setting op.path op.act r else None) ≡ None) [ true ↦ by op.act reads | false ↦ refl ]
  where
    by : (act : Act) → is_read act ≡ true → act_setting op.path act r ≡ None
    by (Put rows) e = cc
    by (Merge rows) e = cc
    by Delete e = cc
    by Read e = refl

pub apply-read : (tree : List Row) (s : Store) (ops : List Op) (op : Op) → is_read op.act ≡ true → apply_ops tree s (ops ++ op ∷ []) ≡ apply_ops tree s ops
apply-read tree s ops op reads =
    same_tree (apply_ops tree s (ops ++ op ∷ [])) (apply_ops tree s ops) (IsAscending-apply_ops tree s (ops ++ op ∷ [])) (IsAscending-apply_ops tree s ops)
    (λ r. cell-next tree s ops op r ∙ ap (λ x. cell_by x (cell (apply_ops tree s ops) r)) (setting-read s op r reads))

pub apply-other : (tree : List Row) (s : Store) (ops : List Op) (op : Op) → same_store op.store s ≡ false → apply_ops tree s (ops ++ op ∷ []) ≡ apply_ops tree s ops
apply-other tree s ops op other =
    same_tree (apply_ops tree s (ops ++ op ∷ [])) (apply_ops tree s ops) (IsAscending-apply_ops tree s (ops ++ op ∷ [])) (IsAscending-apply_ops tree s ops)
    (λ r. cell-next tree s ops op r ∙ ap (λ x. cell_by x (cell (apply_ops tree s ops) r)) (setting-other s op r other))
