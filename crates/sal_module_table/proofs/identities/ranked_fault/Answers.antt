use Rattle.std.proofs.Common.{rules, None}
use Rattle.sal_grouping.specs.Indexes.{lists}
use Rattle.sal_module_table.specs.Identities.{faults_of}
use Rattle.sal_module_table.proofs.Seen.{fault-more}
use Rattle.sal_module_table.proofs.identities.ranked_fault.Goals as goal

pub loop-i-preserved : goal.loop-i-preserved
loop-i-preserved c =
    let all = c.args.all.now in
    let i = c.loop-i.i in
    fault-more all i c.index-all-i.result c.loop-i-test.true (search rules) (faults_of c.args.typedefs.now (lists c.args.circles.now.edges.now)) None c.loop-i.best c.in_ok-best.best
    c.loop-i.invariant c.in_ok-best.ensures
