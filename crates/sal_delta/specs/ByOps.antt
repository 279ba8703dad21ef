-- The changes of a commit from its operations, as the code computes them. Contracts of crates above use `changes_under` instead.
use Rattle.std.specs.Prelude.{List, [], ◌∷◌, Option, flat_map, if◌then◌else◌}
use Rattle.sal_types.specs.declared.value.Store.{Store}
use Rattle.sal_types.specs.declared.value.Step.{Step}
use Rattle.sal_types.specs.declared.value.Cell.{Cell}
use Rattle.sal_types.specs.declared.row.Row.{Row}
use Rattle.sal_types.specs.Prefix.{is_prefix}
use Rattle.sal_types.specs.Tree.{cell}
use Rattle.sal_rows.specs.declared.op.Act.{Act}
use Rattle.sal_rows.specs.declared.op.Act.TheVariants.{Put, Merge, Delete, Read}
use Rattle.sal_rows.specs.declared.op.Op.{Op}
use Rattle.sal_rows.specs.declared.change.Change.{Change}
use Rattle.sal_rows.specs.Apply.{same_store}
use Rattle.sal_rows.specs.Changes.{same_cell, changes_under}

-- the change of a path with these cells, if they differ
abbrev pub change_of : List Step → Option Cell → Option Cell → List Change
change_of r c d = if same_cell c d then [] else record { path = r; before = c; after = d } ∷ []

-- at the path r itself
abbrev pub found_at : List Row → List Row → List Step → List Change
found_at before after r = change_of r (cell before r) (cell after r)

-- at the path of a row, if it is under p
abbrev pub found_of_row : List Row → List Row → List Step → Row → List Change
found_of_row before after p row = if is_prefix p row.path then found_at before after row.path else []

abbrev pub found_at_rows : List Row → List Row → List Step → List Row → List Change
found_at_rows before after p rows = flat_map (λ row. found_of_row before after p row) rows

-- under p and under q
abbrev pub found_below : List Row → List Row → List Step → List Step → List Change
found_below before after p q = if is_prefix q p then changes_under before after p else (if is_prefix p q then changes_under before after q else [])

-- by an act at the path q
abbrev pub found_by : List Row → List Row → List Step → List Step → Act → List Change
found_by before after p q (Put rows) = found_below before after p q
found_by before after p q (Merge rows) = found_at_rows before after p rows
found_by before after p q Delete = found_below before after p q
found_by before after p q Read = []

-- by an operation, if it is of the store
abbrev pub found_of_op : List Row → List Row → Store → List Step → Op → List Change
found_of_op before after s p op = if same_store op.store s then found_by before after p op.path op.act else []

abbrev pub found_by_all : List Row → List Row → Store → List Step → List Op → List Change
found_by_all before after s p ops = flat_map (λ op. found_of_op before after s p op) ops
