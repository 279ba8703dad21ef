use Rattle.std.proofs.Common.{rules}
use Rattle.std.proofs.lemmas.List.{get_or_default}
use Rattle.sal_module_table.specs.Leafrefs.{seen, seen_all}
use Rattle.sal_module_table.proofs.Leading.{edges-more}
use Rattle.sal_module_table.proofs.leafrefs.edges_of.Goals as goal

pub loop-k-preserved : goal.loop-k-preserved
loop-k-preserved c =
    let forest = c.args.paths.now.forest.now in
    edges-more c.args.paths.now.modules.now forest c.loop-k.k _ (seen_all c.args.leafrefs.now) (seen c.leafrefs_at-own.result.now) c.loop-k-test.true
    (get_or_default forest c.loop-k.k _ _ c.loop-k-test.true) c.requires c.leafrefs_at-own.ensures
    c.loop-k.edges.items c.append.new.list.items c.in_ok-targets.targets c.loop-k.invariant (search rules) c.in_ok-targets.ensures
