use Rattle.std.proofs.Common.{◌≡◌, ◌+◌, ◌≤◌, drop}
use Rattle.sal_retell.specs.Light.{commits_of}
use Rattle.sal_retell.proofs.queries.commits_of.Given as goal

abbrev pub invariant-loop-i : goal.invariant-loop-i
invariant-loop-i l = (l.count + commits_of l.domain (drop l.i l.sent) (drop l.i l.done) ≡ commits_of l.domain l.sent l.done) × (l.count ≤ l.i)
