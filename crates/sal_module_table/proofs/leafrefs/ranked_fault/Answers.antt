use Rattle.std.proofs.lemmas.List.{get_or_default}
use Rattle.sal_grouping.specs.Indexes.{lists}
use Rattle.sal_module_table.specs.Leafrefs.{seen, seen_all}
use Rattle.sal_module_table.proofs.Leading.{fault-more}
use Rattle.sal_module_table.proofs.leafrefs.ranked_fault.Goals as goal

pub loop-k-preserved : goal.loop-k-preserved
loop-k-preserved c =
    let forest = c.args.paths.now.forest.now in
    fault-more c.args.paths.now.modules.now forest c.loop-k.k _ (seen_all c.args.leafrefs.now) (seen c.leafrefs_at-own.result.now) c.loop-k-test.true
    (get_or_default forest c.loop-k.k _ _ c.loop-k-test.true) c.requires.leafrefs c.leafrefs_at-own.ensures
    (lists c.args.circles.now.edges.now) c.loop-k.best c.in_ok-best.best c.loop-k.invariant c.in_ok-best.ensures
