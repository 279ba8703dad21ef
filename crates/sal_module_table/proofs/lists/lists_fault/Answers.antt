use Rattle.std.proofs.Common.{None}
use Rattle.std.proofs.lemmas.List.{get_or_default}
use Rattle.sal_grouping.proofs.Places.{least_more}
use Rattle.sal_module_table.specs.Lists.{node_faults}
use Rattle.sal_module_table.proofs.lists.lists_fault.Goals as goal

pub loop-k-preserved : goal.loop-k-preserved
loop-k-preserved c =
    let forest = c.args.nodes.now.forest.now in
    least_more (node_faults c.args.nodes.now.modules.now forest) forest c.loop-k.k _ None c.loop-k.best c.in_ok-best.best c.loop-k-test.true
    (get_or_default forest c.loop-k.k _ _ c.loop-k-test.true) c.loop-k.invariant c.in_ok-best.ensures
