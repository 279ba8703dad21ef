use Rattle.std.proofs.Common.{◌≡◌}
use Rattle.sal_delta.specs.Ordered.{marks_of, in_order}
use Rattle.sal_delta.proofs.ordered.by_path.Given as goal

abbrev pub invariant-loop-change : goal.invariant-loop-change
invariant-loop-change l = marks_of l.map.entries ≡ in_order l.yielded
