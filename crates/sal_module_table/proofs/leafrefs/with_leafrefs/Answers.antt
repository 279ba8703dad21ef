use Rattle.std.proofs.Common.{rules}
use Rattle.sal_grouping.specs.Indexes.{lists}
use Rattle.sal_module_table.specs.Leafrefs.{leafref_faults}
use Rattle.sal_module_table.proofs.Leading.{leafref-more}
use Rattle.sal_module_table.proofs.leafrefs.with_leafrefs.Goals as goal

pub loop-leafref-preserved : goal.loop-leafref-preserved
loop-leafref-preserved c =
    leafref-more (leafref_faults c.args.paths.now.modules.now c.args.paths.now.forest.now (lists c.args.circles.now.edges.now) c.args.k c.args.branch.now) c.args.leafrefs.now c.loop-leafref.leafref-index c.leafref-item.result
    c.args.best c.loop-leafref.best c.in_ok-best.best c.loop-leafref-test.true (search rules) c.loop-leafref.invariant c.in_ok-best.ensures
