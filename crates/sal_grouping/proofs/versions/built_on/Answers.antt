use Rattle.std.proofs.Common.{◌-◌, length, arith}
use Rattle.sal_grouping.specs.Versions.{trees_from, new_augments}
use Rattle.sal_grouping.proofs.RoundLists.{rounds-length}
use Rattle.sal_grouping.proofs.versions.built_on.Goals as goal

pub returns-then-not-all : goal.returns-then-not-all
returns-then-not-all c =
    let a = c.args in
    let stmts = a.modules.now in
    let rows = a.plan.now.rows.items in
    let named = a.plan.now.named.items in
    let fresh = new_augments a.old rows in
    let trees = trees_from (length stmts - a.old) stmts rows named a.old a.before.items in
    omega (arith, c.in_ok-all.ensures.many c.if-not-all.true, rounds-length stmts rows named (length fresh) (trees, fresh))
