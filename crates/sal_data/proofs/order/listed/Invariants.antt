-- The rows so far are those of the entries so far.
use Rattle.std.proofs.Common.{◌≡◌}
use Rattle.sal_types.specs.Tree.{entries}
use Rattle.sal_data.proofs.order.listed.Given as goal

abbrev pub invariant-loop-path : goal.invariant-loop-path
invariant-loop-path l = entries l.list.items ≡ l.yielded
