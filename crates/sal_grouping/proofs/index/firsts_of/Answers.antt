use Rattle.std.proofs.Common.{◌∙◌, ◌<◌, sym, ap, arith, length}
use Rattle.sal_grouping.specs.Rows.{defines}
use Rattle.sal_grouping.specs.Indexes.{with_first}
use Rattle.sal_grouping.proofs.IndexLists.{first-take}
use Rattle.sal_grouping.proofs.index.firsts_of.Goals as goal

pub loop-k-preserved : goal.loop-k-preserved
loop-k-preserved c =
    let row = c.index-rows-k.result in
    let k = c.loop-k.k in
    record {
      count = c.in_ok-define_row.ensures.count ∙ c.loop-k.invariant.count;
      each = λ b d h q.
          let lt : b < length c.loop-k.maps.items = omega (arith, c.loop-k.invariant.count) in
          c.in_ok-define_row.ensures.each b d lt q ∙ ap (λ found. with_first found (defines c.args.keyword b q row) k) (c.loop-k.invariant.each b d h q)
          ∙ sym (first-take c.args.rows.now k row c.loop-k-test.true c.index-rows-k.is c.args.keyword b q);
    }
