use Rattle.std.proofs.Common.{◌^◌, sym, arith}
use Rattle.std.proofs.lemmas.Grind.{common_steps}
use Rattle.std.proofs.lemmas.Bool.Decides.{nat_tests}
use Rattle.sal_module.proofs.Order.{find_at-any, find_at-zero, find_at-more, order-below}
use Rattle.sal_module.proofs.places.find_in_order.Goals as goal

pub returns-then-stmt-at : goal.returns-then-stmt-at
returns-then-stmt-at c = sym (find_at-any c.args.levels c.args.at c.args.stmt.now (grind (arith, nat_tests)))

pub returns-then-levels-eq0 : goal.returns-then-levels-eq0
returns-then-levels-eq0 c =
    let last = find_at-zero c.args.at c.args.stmt.now in
    grind (arith, nat_tests, common_steps)

pub find_among-requires : goal.find_among-requires
find_among-requires c = rw c.items.ensures (order-below c.args.levels (2 ^ 32) c.args.stmt.now (omega arith) c.requires)

pub returns : goal.returns
returns c =
    let more = find_at-more c.args.levels c.args.at c.args.stmt.now (omega arith) in
    grind (arith, nat_tests, common_steps)
