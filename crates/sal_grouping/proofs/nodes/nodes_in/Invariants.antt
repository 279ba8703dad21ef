-- The nodes that were found, and those that are left.
use Rattle.std.proofs.Common.{◌≡◌, ◌++◌}
use Rattle.sal_grouping.specs.Growth.{nodes_in}
use Rattle.sal_grouping.specs.Visits.{all_left, all_steps}
use Rattle.sal_grouping.proofs.nodes.nodes_in.Given as goal

abbrev pub invariant-visits : goal.invariant-visits
invariant-visits l = l.out.items ++ all_left l.plan.rows.items l.plan.named.items l.visits.items ≡ nodes_in l.plan.rows.items l.plan.named.items l.block

abbrev pub decreases-visits : goal.decreases-visits
decreases-visits l = all_steps l.plan.rows.items l.plan.named.items l.visits.items
