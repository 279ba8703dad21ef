-- The map has the rows so far, in the order of their paths.
use Rattle.std.proofs.Common.{◌≡◌}
use Rattle.sal_types.specs.Tree.{entries}
use Rattle.sal_data.specs.Read.{in_order}
use Rattle.sal_data.proofs.order.by_path.Given as goal

abbrev pub invariant-loop-row : goal.invariant-loop-row
invariant-loop-row l = l.map.entries ≡ entries (in_order l.yielded)
