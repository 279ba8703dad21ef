use Rattle.std.proofs.Common.{◌<◌, length, arith}
use Rattle.sal_grouping.specs.Indexes.{lists}
use Rattle.sal_module_table.proofs.Fillings.{put-type}
use Rattle.sal_module_table.proofs.fill.place_type.Goals as goal

pub returns-in_ok-t-clause-each : goal.returns-in_ok-t-clause-each
returns-in_ok-t-clause-each c j h =
    let a = c.args in
    let inside : a.k < length a.all.now.items = omega (arith, c.requires) in
    let made = rw c.deref.ensures.value at c.in_ok-t.ensures in
    put-type a.own.now (lists a.edges.now) a.all.now.items a.k c.in_ok-t.t inside made j
