use Rattle.std.proofs.Common.{◌-◌, arith}
use Rattle.std.proofs.lemmas.Grind.{common_steps}
use Rattle.std.proofs.lemmas.Bool.Decides.{nat_tests}
use Rattle.sal_module.proofs.Order.{is_in_order-zero, is_in_order-more, order-at}
use Rattle.sal_module.proofs.places.+is_in_order.Goals as goal

pub returns-then-levels-eq0 : goal.returns-then-levels-eq0
returns-then-levels-eq0 t c =
    let last = is_in_order-zero c.args.high c.args.stmt.now in
    grind (arith, nat_tests, common_steps)

pub returns-then-not-is_in_order : goal.returns-then-not-is_in_order
returns-then-not-is_in_order t c =
    let more = is_in_order-more c.args.levels c.args.high c.args.stmt.now (omega arith) in
    let step = order-at (c.args.levels - 1) c.args.high c.items-subs.result.now c.loop-i.i c.index-subs-i.result c.loop-i-test.true in
    grind (arith, nat_tests, common_steps)

pub returns : goal.returns
returns t c =
    let more = is_in_order-more c.args.levels c.args.high c.args.stmt.now (omega arith) in
    grind (arith, nat_tests, common_steps)
