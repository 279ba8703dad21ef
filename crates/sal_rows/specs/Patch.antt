-- A tree that is updated by the changes of another one.
use Rattle.std.specs.Prelude.{not, List, Option, Some, None}
use Rattle.std.specs.List.{filter, fold}
use Rattle.sal_types.specs.declared.value.Step.{Step}
use Rattle.sal_types.specs.declared.value.Cell.{Cell}
use Rattle.sal_types.specs.declared.row.Row.{Row}
use Rattle.sal_types.specs.Order.{path_eq}
use Rattle.sal_rows.specs.Edits.{set_row}
use Rattle.sal_rows.specs.declared.change.Change.{Change}
use Rattle.sal_rows.specs.declared.batch.Part.{Part}
use Rattle.sal_rows.specs.declared.rows.patch.Patch.{Patch}

-- the rows with the cell at the path, or without a row there
abbrev pub with_cell : List Row → List Step → Option Cell → List Row
with_cell rows p None = filter (λ row. not (path_eq p row.path)) rows
with_cell rows p (Some c) = set_row rows (record { path = p; cell = c })

-- the rows after the patches
abbrev pub patched : List Row → List Patch → List Row
patched rows ps = fold (λ rows p. with_cell rows p.path p.cell) rows ps

-- the rows after the changes
abbrev pub with_changes : List Row → List Change → List Row
with_changes rows cs = fold (λ rows c. with_cell rows c.path c.after) rows cs

-- the rows after the parts of a batch
abbrev pub with_parts : List Row → List Part → List Row
with_parts rows ps = fold (λ rows p. with_changes rows p.list) rows ps
