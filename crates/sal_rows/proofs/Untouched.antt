-- Paths that operations do not touch are unchanged.
use Rattle.std.proofs.Common.{◌≡◌, Bool, true, false, List, [], ◌∷◌, ◌&&◌, Option, Some, None, refl, ap, sym, ◌∙◌, if◌then◌else◌}
use Rattle.std.proofs.lemmas.Bool.{or_parts, and_from}
use Rattle.std.specs.Prelude.{is_some}
use Rattle.std.specs.List.{list_any}
use Rattle.std.specs.Option.{option_map}
use Rattle.sal_types.specs.declared.value.Store.{Store}
use Rattle.sal_types.specs.declared.value.Step.{Step}
use Rattle.sal_types.specs.declared.value.Cell.{Cell}
use Rattle.sal_types.specs.declared.row.Row.{Row}
use Rattle.sal_types.specs.Order.{path_eq}
use Rattle.sal_types.specs.Prefix.{is_prefix}
use Rattle.sal_types.specs.Tree.{cell, has}
use Rattle.sal_rows.specs.declared.op.Act.{Act}
use Rattle.sal_rows.specs.declared.op.Act.TheVariants.{Put, Merge, Delete, Read}
use Rattle.sal_rows.specs.declared.op.Op.{Op}
use Rattle.sal_rows.specs.Apply.{same_store, act_setting, setting, last_setting, cell_by, cell_after, rows_of_act, apply_ops}
use Rattle.sal_rows.specs.Touch.{op_touches, touches}
use Rattle.sal_rows.proofs.Cells.{same_path}
use Rattle.sal_rows.proofs.Applied.{cell-apply_ops, cell_by-or}

-- where no row's path passes the test, a path that passes has no cell
pub no_cell : (q : List Step → Bool) (rows : List Row) (r : List Step) → list_any (λ row. q row.path) rows ≡ false → q r ≡ true → cell rows r ≡ None
no_cell q [] r h t = refl
no_cell q (x ∷ rows) r h t =
    elim (path_eq r x.path) as (λ b. path_eq r x.path ≡ b → (if b then Some x.cell else cell rows r) ≡ None) [
      | true ↦ λ e. let same : q r ≡ q x.path = ap q (same_path r x.path e) in let no = (or_parts (q x.path) (list_any (λ row. q row.path) rows) h).0 in cc
      | false ↦ λ e. no_cell q rows r (or_parts (q x.path) _ h).1 t
    ] refl

-- an operation that does not touch p changes no cell at p or below it
act_untouched : (before : List Row) (q : List Step) (act : Act) (p r : List Step) → has (rows_of_act act) p ≡ false → list_any (λ row. is_prefix p row.path && is_some (act_setting q act row.path)) before ≡ false → is_prefix p r ≡ true → cell_by (act_setting q act r) (cell before r) ≡ cell before r
act_untouched before q (Put rows) p r no_row none under =
    elim (is_prefix q r) as (λ b. is_prefix q r ≡ b → cell_by (if b then Some (cell rows r) else None) (cell before r) ≡ cell before r) [
      | true ↦ λ e.
          let sets : is_some (act_setting q (Put rows) r) ≡ true = ap (λ b. is_some (if b then Some (cell rows r) else None)) e in
          no_cell (is_prefix p) rows r no_row under ∙ sym (no_cell (λ x. is_prefix p x && is_some (act_setting q (Put rows) x)) before r none (and_from _ _ under sets))
      | false ↦ λ e. refl
    ] refl
act_untouched before q (Merge rows) p r no_row none under = ap (λ c. cell_by (option_map Some c) (cell before r)) (no_cell (is_prefix p) rows r no_row under)
act_untouched before q Delete p r no_row none under =
    elim (is_prefix q r) as (λ b. is_prefix q r ≡ b → cell_by (if b then Some None else None) (cell before r) ≡ cell before r) [
      | true ↦ λ e.
          let sets : is_some (act_setting q Delete r) ≡ true = ap (λ (b : Bool). is_some {T = Option Cell} (if b then Some None else None)) e in
          sym (no_cell (λ x. is_prefix p x && is_some (act_setting q Delete x)) before r none (and_from _ _ under sets))
      | false ↦ λ e. refl
    ] refl
act_untouched before q Read p r no_row none under = refl

op_untouched : (before : List Row) (s : Store) (op : Op) (p r : List Step) → (same_store op.store s && op_touches before op p) ≡ false → is_prefix p r ≡ true → cell_by (setting s op r) (cell before r) ≡ cell before r
op_untouched before s op p r h under =
    elim (same_store op.store s) as (λ b. (b && op_touches before op p) ≡ false → cell_by (if b then act_setting op.path op.act r else None) (cell before r) ≡ cell before r) [
      | true ↦ λ t. act_untouched before op.path op.act p r (or_parts _ _ t).0 (or_parts (has (rows_of_act op.act) p) _ t).1 under
      | false ↦ λ t. refl
    ] h

pub cell_after-untouched : (before : List Row) (s : Store) (ops : List Op) (p r : List Step) → touches before s ops p ≡ false → is_prefix p r ≡ true → cell_after before s ops r ≡ cell before r
cell_after-untouched before s [] p r h under = refl
cell_after-untouched before s (op ∷ ops) p r h under =
    cell_by-or (last_setting s ops r) (setting s op r) (cell before r)
    ∙ ap (cell_by (last_setting s ops r)) (op_untouched before s op p r (or_parts _ (touches before s ops p) h).0 under)
    ∙ cell_after-untouched before s ops p r (or_parts (same_store op.store s && op_touches before op p) _ h).1 under

-- the tree after operations that do not touch p is as before at p and below it
pub cell-untouched : (before : List Row) (s : Store) (ops : List Op) (p r : List Step) → touches before s ops p ≡ false → is_prefix p r ≡ true → cell (apply_ops before s ops) r ≡ cell before r
cell-untouched before s ops p r h under = cell-apply_ops before s ops r ∙ cell_after-untouched before s ops p r h under
