use Rattle.std.proofs.Common.{◌≡◌}
use Rattle.sal_delta.specs.Ordered.{marks, marks_of}
use Rattle.sal_delta.proofs.ordered.listed.Given as goal

abbrev pub invariant-loop-path : goal.invariant-loop-path
invariant-loop-path l = marks l.list.items ≡ marks_of l.yielded
