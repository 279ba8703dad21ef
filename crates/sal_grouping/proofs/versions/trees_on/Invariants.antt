-- The modules so far.
use Rattle.std.proofs.Common.{◌≡◌, ◌≤◌, ◌-◌, length}
use Rattle.sal_grouping.specs.Versions.{trees_from}
use Rattle.sal_grouping.proofs.versions.trees_on.Given as goal

abbrev pub invariant-loop-m : goal.invariant-loop-m
invariant-loop-m l =
    record {
      small : length l.nodes.items ≤ 65536;
      grown : l.nodes.items ≡ trees_from (l.m - l.old) l.modules l.plan.rows.items l.plan.named.items l.old l.initial.nodes.items;
    }
