-- Rows that are sorted by their paths make the same tree.
use Rattle.std.proofs.Common.{◌≡◌, List, [], ◌∷◌, refl, ap, sym, ◌∙◌}
use Rattle.std.specs.List.{fold}
use Rattle.std.specs.List.Sorted.{IsStableBy}
use Rattle.std.specs.Ordering.{is_lt}
use Rattle.sal_types.specs.declared.value.Cell.{Cell}
use Rattle.sal_types.specs.declared.value.Step.{Step}
use Rattle.sal_types.specs.declared.row.Row.{Row}
use Rattle.sal_types.specs.Order.{path_cmp}
use Rattle.sal_types.specs.Tree.{entries}
use Rattle.sal_rows.specs.Edits.{set_row}
use Rattle.sal_rows.proofs.Cells.{entries-set_row}
use Rattle.sal_data.specs.Read.{in_order}
use Rattle.sal_data.proofs.Ordered.{same_rows}
use Rattle.sal_rows.proofs.Sorted.{put_each, put_each-stable}

abbrev path_of : Row → List Step
path_of row = row.path

abbrev cell_of : Row → Cell
cell_of row = row.cell

entries-onto : (rows tree : List Row) → entries (fold set_row tree rows) ≡ put_each path_of cell_of (entries tree) rows
entries-onto [] tree = refl
entries-onto (x ∷ rows) tree = entries-onto rows (set_row tree x) ∙ ap (λ es. put_each path_of cell_of es rows) (entries-set_row tree x)

pub in_order-stable : (rows sorted : List Row) → IsStableBy (λ (a b : Row). is_lt (path_cmp a.path b.path)) rows sorted → in_order sorted ≡ in_order rows
in_order-stable rows sorted h =
    same_rows (in_order sorted) (in_order rows) (entries-onto sorted [] ∙ put_each-stable path_of cell_of rows sorted h ∙ sym (entries-onto rows []))
