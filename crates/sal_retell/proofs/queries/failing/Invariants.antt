use Rattle.std.proofs.Common.{◌≡◌, ◌+◌, drop}
use Rattle.sal_retell.specs.Light.{failing_on}
use Rattle.sal_retell.proofs.queries.failing.Given as goal

abbrev pub invariant-loop-i : goal.invariant-loop-i
invariant-loop-i l = failing_on (l.i + 1) l.chain (drop l.i l.sent) (drop l.i l.done) ≡ failing_on 1 l.chain l.sent l.done
