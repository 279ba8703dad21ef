-- The commits so far are kept.
use Rattle.sal_graft.specs.Kept.{AreKept}
use Rattle.tests_broker.proofs.near.all_are_next.Given as goal

abbrev pub invariant-loop : goal.invariant-loop
invariant-loop l = AreKept l.domain.commits.items
