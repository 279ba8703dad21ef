-- The notes before this one are offered.
use Rattle.std.proofs.Common.{◌≡◌}
use Rattle.sal_feed_script.specs.Halves.{notes_below}
use Rattle.sal_feed_script.proofs.rounds.offer_some.Given as goal

abbrev pub invariant-loop-number : goal.invariant-loop-number
invariant-loop-number g l = (l.seat.feed ≡ l.feed.id) × (l.seat.offered ≡ notes_below l.number)
