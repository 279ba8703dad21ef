use Rattle.std.proofs.Common.{◌∙◌, get_or, sym, ap, arith}
use Rattle.sal_grouping.specs.Indexes.{lists}
use Rattle.sal_grouping.proofs.IndexLists.{lists-length}
use Rattle.sal_module_table.specs.Orders.{rows}
use Rattle.sal_module_table.proofs.Derivations.{low, ranked-more}
use Rattle.sal_module_table.proofs.derived.derived_by.Goals as goal

pub loop-r-preserved : goal.loop-r-preserved
loop-r-preserved c =
    let edges = lists c.args.edges.now in
    let order = c.args.order.now in
    record {
      none = c.in_ok-place_row.ensures.none;
      count = c.in_ok-place_row.ensures.count ∙ c.loop-r.invariant.count;
      known = ranked-more edges order.ranks.items order.order.items c.requires.order (rows c.loop-r.all.items) (rows c.place_row.new.all.items) c.loop-r.r c.stands_at-i.result (rw c.deref.ensures.value at c.stands_at-i.ensures ∙ ap (λ n. get_or order.order.items c.loop-r.r n) (sym (lists-length c.args.edges.now))) c.loop-r.invariant.known c.in_ok-place_row.ensures.each;
    }

pub returns-clause-each : goal.returns-clause-each
returns-clause-each c k h =
    let under = low (lists c.args.edges.now) c.args.order.now.ranks.items c.args.order.now.order.items c.requires.order k h in
    c.loop-r.invariant.known k h (omega (arith, under, c.requires.order.count))
