-- Both halves are so far.
use Rattle.sal_feed_script.specs.Halves.{AreHalves}
use Rattle.sal_feed_script.proofs.rounds.all_rounds.Given as goal

abbrev pub invariant-loop : goal.invariant-loop
invariant-loop g l = AreHalves l.feed l.notes (l.offered, l.taken)
