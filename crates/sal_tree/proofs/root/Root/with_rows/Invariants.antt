use Rattle.std.proofs.Common.{◌≡◌, take}
use Rattle.sal_tree.specs.Edit.{with_rows}
use Rattle.sal_tree.proofs.root.Root.with_rows.Given as goal

abbrev pub invariant-loop-row : goal.invariant-loop-row
invariant-loop-row l = l.root ≡ with_rows l.stamp l.initial.root (take l.row-index l.rows)
