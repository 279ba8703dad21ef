use Rattle.std.proofs.Common.{◌<◌, ◌^◌, ◌∙◌, All, length, sym, subst, arith}
use Rattle.sal_grouping.specs.Indexes.{lists}
use Rattle.sal_grouping.proofs.IndexLists.{lists-length}
use Rattle.sal_module_table.specs.Orders.{rows}
use Rattle.sal_module_table.proofs.Derivations.{put-row}
use Rattle.sal_module_table.proofs.derived.place_row.Goals as goal

pub returns-in_ok-join-clause-each : goal.returns-in_ok-join-clause-each
returns-in_ok-join-clause-each c k h =
    let a = c.args in
    let inside : a.i < length (rows a.all.now.items) = omega (arith, c.requires.count, lists-length a.edges.now) in
    let row = rw (c.out_of.ensures, c.deref.ensures.value) at c.in_ok-join.ensures in
    put-row a.all.now.items (lists a.edges.now) a.i c.take.result inside (c.take.ensures.row ∙ row) k

pub join-requires-clause-small : goal.join-requires-clause-small
join-requires-clause-small c = subst (All (λ b. b < 2 ^ 32)) (sym c.out_of.ensures) (c.requires.small c.args.i)
