use Rattle.sal_module_table.proofs.Nowhere.{none-more}
use Rattle.sal_module_table.proofs.leafrefs.no_edges.Goals as goal

pub loop-branch-preserved : goal.loop-branch-preserved
loop-branch-preserved c =
    none-more c.args.forest.now c.loop-branch._branch-index c.loop-branch.edges.items c.append.new.list.items c.new.result c.loop-branch-test.true c.loop-branch.invariant c.in_ok-append.ensures
    c.new.ensures.items
