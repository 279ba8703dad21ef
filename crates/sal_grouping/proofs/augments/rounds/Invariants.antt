-- The rounds that are left.
use Rattle.std.proofs.Common.{◌≡◌, ◌≤◌, ◌-◌, length}
use Rattle.sal_grouping.specs.Augments.{rounds}
use Rattle.sal_grouping.proofs.augments.rounds.Given as goal

abbrev pub invariant-loop-i : goal.invariant-loop-i
invariant-loop-i l =
    record {
      small : length l.nodes.items ≤ 65536;
      left : rounds l.count l.modules l.plan.rows.items l.plan.named.items (l.initial.nodes.items, l.initial.left.items)
          ≡ rounds (l.count - l._i) l.modules l.plan.rows.items l.plan.named.items (l.nodes.items, l.left.items);
    }
