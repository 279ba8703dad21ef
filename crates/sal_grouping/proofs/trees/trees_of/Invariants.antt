-- The modules so far.
use Rattle.std.proofs.Common.{◌≡◌, ◌≤◌, length}
use Rattle.sal_grouping.specs.Growth.{trees_until}
use Rattle.sal_grouping.proofs.trees.trees_of.Given as goal

abbrev pub invariant-loop-m : goal.invariant-loop-m
invariant-loop-m l = record { small : length l.nodes.items ≤ 65536; grown : l.nodes.items ≡ trees_until l.m l.modules l.plan.rows.items l.plan.named.items }
