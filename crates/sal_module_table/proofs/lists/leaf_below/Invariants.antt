-- The steps that are left.
use Rattle.std.proofs.Common.{◌≡◌, length}
use Rattle.sal_module_table.specs.Lists.{leaf_below}
use Rattle.sal_module_table.proofs.lists.leaf_below.Given as goal

abbrev pub invariant-steps : goal.invariant-steps
invariant-steps l = leaf_below l.nodes.modules.now l.nodes.forest.now l.branch l.initial.above l.steps ≡ leaf_below l.nodes.modules.now l.nodes.forest.now l.branch l.above l.rest

abbrev pub decreases-steps : goal.decreases-steps
decreases-steps l = length l.rest
