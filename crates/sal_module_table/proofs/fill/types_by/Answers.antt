use Rattle.std.proofs.Common.{◌∙◌, ◌<◌, length, get_or, sym, ap, arith}
use Rattle.sal_grouping.specs.Indexes.{lists}
use Rattle.sal_grouping.proofs.IndexLists.{lists-length}
use Rattle.sal_module_table.proofs.Derivations.{low}
use Rattle.sal_module_table.proofs.Fillings.{types-more}
use Rattle.sal_module_table.proofs.fill.types_by.Goals as goal

pub loop-r-preserved : goal.loop-r-preserved
loop-r-preserved c =
    let edges = lists c.args.edges.now in
    let order = c.args.order.now in
    let is = rw c.deref.ensures.value at c.stands_at-k.ensures ∙ ap (λ n. get_or order.order.items c.loop-r.r n) (sym (lists-length c.args.edges.now)) in
    record {
      count = c.in_ok-place_type.ensures.count ∙ c.loop-r.invariant.count;
      known = types-more edges order.ranks.items order.order.items c.requires c.args.own.now c.loop-r.all.items c.place_type.new.all.items c.loop-r.r c.stands_at-k.result is c.loop-r.invariant.known
          (λ k h. c.in_ok-place_type.ensures.each k (omega (arith, h, c.loop-r.invariant.count, lists-length c.args.edges.now)));
    }

pub returns-clause-each : goal.returns-clause-each
returns-clause-each c k h =
    let edges = lists c.args.edges.now in
    let inside : k < length edges = omega (arith, h, lists-length c.args.edges.now) in
    let under = low edges c.args.order.now.ranks.items c.args.order.now.order.items c.requires k inside in
    c.loop-r.invariant.known k inside (omega (arith, under, c.requires.count))
