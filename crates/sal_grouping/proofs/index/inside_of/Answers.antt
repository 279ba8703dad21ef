use Rattle.std.proofs.Common.{◌∙◌, ◌<◌, Some, ◌++◌, sym, ap, arith, length}
use Rattle.sal_grouping.specs.Indexes.{picked, lists}
use Rattle.sal_grouping.proofs.IndexLists.{inside-take}
use Rattle.sal_grouping.proofs.index.inside_of.Goals as goal

pub loop-k-preserved : goal.loop-k-preserved
loop-k-preserved c =
    let row = c.index-rows-k.result in
    let k = c.loop-k.k in
    record {
      count = c.in_ok-pick.ensures.count ∙ c.loop-k.invariant.count;
      each = λ b h.
          let lt : b < length (lists c.loop-k.all.items) = omega (arith, c.loop-k.invariant.count) in
          c.in_ok-pick.ensures.each b lt ∙ ap (λ xs. xs ++ picked b row.around (Some k)) (c.loop-k.invariant.each b h)
          ∙ sym (inside-take c.args.rows.now k row c.loop-k-test.true c.index-rows-k.is b);
    }
