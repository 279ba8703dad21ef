use Rattle.std.proofs.Common.{rules, ◌-◌, ◌∙◌, ap, sym, arith}
use Rattle.sal_data.specs.Read.{in_order}
use Rattle.sal_data.proofs.Flipped.{in_order-swap}
use Rattle.sal_data.proofs.order.insert_tail.Goals as goal

pub loop-done-preserved : goal.loop-done-preserved
loop-done-preserved c =
    let l = c.loop-done in
    (ap in_order c.swap.ensures.items ∙ in_order-swap l.rows.items (c.args.place - l.done - 1) (c.args.place - l.done) _ _ (omega arith) (omega arith) c.index.ensures c.index-in-loop-done.ensures (sym c.if-le.ensures) ∙ l.invariant.0, search rules)
