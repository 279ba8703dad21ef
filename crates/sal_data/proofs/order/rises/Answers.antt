use Rattle.std.proofs.Common.{sym, ◌∙◌, arith}
use Rattle.std.specs.Ordering.{is_le}
use Rattle.sal_types.specs.Order.{path_cmp}
use Rattle.sal_rows.proofs.Rising.{rising_more}
use Rattle.sal_data.proofs.order.rises.Goals as goal

pub loop-i-preserved : goal.loop-i-preserved
loop-i-preserved c =
    let tested = c.if-le.ensures ∙ (λ i. is_le (path_cmp (sym c.index-rows-i.is i).path (sym c.index-rows-i-in-loop-i.is i).path)) in
    rising_more c.args.rows.now c.loop-i.i c.index-rows-i-in-loop-i.result c.index-rows-i.result _ (omega arith) (omega arith) c.index-rows-i-in-loop-i.is c.index-rows-i.is tested c.loop-i.invariant
