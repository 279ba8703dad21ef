-- The nodes so far, and those that are left.
use Rattle.std.proofs.Common.{◌≡◌, ◌≤◌, ◌+◌, ◌-◌, ◌*◌, length}
use Rattle.sal_grouping.specs.Growth.{grown}
use Rattle.sal_grouping.specs.Frames.{with_frames}
use Rattle.sal_grouping.proofs.grow.grow.Given as goal

abbrev pub invariant-frames : goal.invariant-frames
invariant-frames l =
    record {
      small : length l.nodes.items ≤ 65536;
      left : with_frames l.plan.rows.items l.plan.named.items l.owner l.frames.items l.nodes.items
          ≡ grown l.plan.rows.items l.plan.named.items l.owner l.fn.parent l.fn.nodes.items l.fn.seeds.items;
    }

-- a node that is added replaces one frame by at most two; else there is one frame less
abbrev pub decreases-frames : goal.decreases-frames
decreases-frames l = 2 * (65536 - length l.nodes.items) + length l.frames.items
