-- How a tree differs from the one before it.
use Rattle.std.specs.Prelude.{Bool, true, false, not, List, [], ◌∷◌, Option, Some, None, map, if◌then◌else◌}
use Rattle.std.specs.List.{filter, fold}
use Rattle.std.specs.Ordering.{eq_by_cmp}
use Rattle.sal_types.specs.declared.value.Step.{Step}
use Rattle.sal_types.specs.declared.value.Cell.{Cell}
use Rattle.sal_types.specs.declared.row.Row.{Row}
use Rattle.sal_types.specs.Order.{cell_cmp, path_eq}
use Rattle.sal_types.specs.Tree.{cell, under}
use Rattle.sal_rows.specs.Edits.{set_row}
use Rattle.sal_rows.specs.declared.change.Change.{Change}

-- whether both have one and the same cell, or neither has one
abbrev pub same_cell : Option Cell → Option Cell → Bool
same_cell None None = true
same_cell None (Some d) = false
same_cell (Some c) None = false
same_cell (Some c) (Some d) = eq_by_cmp cell_cmp c d

-- a path with its cells before and after
abbrev pub compared : List Row → List Row → Row → Change
compared before after row = record { path = row.path; before = cell before row.path; after = cell after row.path }

-- The paths at which two trees have different cells, in path order, each with both cells. All paths of either tree are
-- those of the rows before with the rows after inserted.
abbrev pub changes : List Row → List Row → List Change
changes before after = filter (λ c. not (same_cell c.before c.after)) (map (compared before after) (fold set_row before after))

-- those at a path and below it
abbrev pub changes_under : List Row → List Row → List Step → List Change
changes_under before after p = changes (under before p) (under after p)

-- the cells of a path in a list of changes, if it has the path
abbrev pub change_at : List Change → List Step → Option (Option Cell × Option Cell)
change_at [] r = None
change_at (c ∷ cs) r = if path_eq r c.path then Some (c.before, c.after) else change_at cs r

-- both cells if they differ
abbrev pub differing : Option Cell → Option Cell → Option (Option Cell × Option Cell)
differing c d = if same_cell c d then None else Some (c, d)
