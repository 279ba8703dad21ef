-- The first bytes, up to `fed`, were taken.
use Rattle.std.proofs.Common.{◌-◌, length}
use Rattle.sal_follow_script.proofs.Fed.{IsFed}
use Rattle.sal_follow_script.proofs.follow.feed_all.Given as goal

abbrev pub decreases-loop-fed : goal.decreases-loop-fed
decreases-loop-fed l = length l.stream - l.fed

abbrev pub invariant-loop-fed : goal.invariant-loop-fed
invariant-loop-fed l = IsFed l.stream l.initial.follower l.follower l.fed
