-- The copies made so far are the rows before the index that are below the path.
use Rattle.std.proofs.Common.{◌≡◌, take}
use Rattle.sal_types.specs.Tree.{under}
use Rattle.sal_rows.proofs.rows.Rows.under.Given as goal

abbrev pub invariant-loop-row : goal.invariant-loop-row
invariant-loop-row l = l.list.items ≡ under (take l.row-index l.row-items) l.path
