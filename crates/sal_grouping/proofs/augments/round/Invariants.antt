-- The augments so far.
use Rattle.std.proofs.Common.{◌≡◌, ◌≤◌, [], fold, take, length}
use Rattle.sal_grouping.specs.Augments.{Progress, tried}
use Rattle.sal_grouping.proofs.augments.round.Given as goal

abbrev pub invariant-loop-k : goal.invariant-loop-k
invariant-loop-k l =
    record {
      small : length l.nodes.items ≤ 65536;
      so_far : (let now : Progress = (l.nodes.items, l.still.items) in now)
          ≡ fold (tried l.modules l.plan.rows.items l.plan.named.items) (l.initial.nodes.items, []) (take l.k-index l.left);
    }
