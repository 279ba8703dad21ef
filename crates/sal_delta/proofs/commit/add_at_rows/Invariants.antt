use Rattle.std.proofs.Common.{◌≡◌, ◌++◌, take}
use Rattle.sal_tree.specs.Rows.{rows_of}
use Rattle.sal_delta.specs.ByOps.{found_at_rows}
use Rattle.sal_delta.proofs.commit.add_at_rows.Given as goal

abbrev pub invariant-loop-row : goal.invariant-loop-row
invariant-loop-row l = l.into.items ≡ l.initial.into.items ++ found_at_rows (rows_of l.commit.before.now) (rows_of l.commit.after.now) l.path (take l.row-index l.rows)
