use Rattle.std.proofs.Common.{length, arith}
use Rattle.sal_grouping.specs.Growth.{trees_of}
use Rattle.sal_grouping.specs.Augments.{augments_of}
use Rattle.sal_grouping.proofs.RoundLists.{rounds-length}
use Rattle.sal_grouping.proofs.whole.built.Goals as goal

pub returns-in-None : goal.returns-in-None
returns-in-None c =
    let a = c.args in
    let stmts = a.modules.now in
    let rows = a.plan.now.rows.items in
    let named = a.plan.now.named.items in
    let many = rw c.in-None.is at c.in_ok-trees_of.ensures in
    omega (arith, many, rounds-length stmts rows named (length (augments_of rows)) (trees_of stmts rows named, augments_of rows))
