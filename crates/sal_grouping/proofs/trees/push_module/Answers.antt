use Rattle.std.proofs.Common.{None}
use Rattle.sal_grouping.specs.Rows.{top_of}
use Rattle.sal_grouping.proofs.FrameLists.{seeds-many}
use Rattle.sal_grouping.proofs.trees.push_module.Goals as goal

pub returns-in-None-clause-many : goal.returns-in-None-clause-many
returns-in-None-clause-many c t =
    let a = c.args in
    let rows = a.plan.now.rows.items in
    let named = a.plan.now.named.items in
    let many = rw (c.in-None.is, c.top_of-top.ensures) at c.in_ok-seeds_in.ensures in
    seeds-many rows named a.m None (top_of a.modules.now a.m) None a.nodes.now.items many
