use Rattle.std.proofs.Common.{◌≡◌, ◌∙◌, ◌^◌, ◌==◌, true, false, sym, refl, arith}
use Rattle.std.proofs.lemmas.Grind.{common_steps}
use Rattle.std.proofs.lemmas.Bool.Decides.{nat_tests}
use Rattle.sal_stmt.specs.declared.stmt.Stmt.{out-Stmt}
use Rattle.sal_module.specs.Places.{find_at, is_in_order}
use Rattle.sal_module.proofs.Order.{half-at, find_at-any, find_at-zero, find_at-more, find_first-one, order-one, order-below}
use Rattle.sal_module.proofs.places.find_among.Goals as goal

pub halves-init : goal.halves-init
halves-init c = (refl, (2 ^ 32, c.requires))

pub halves-preserved-then-part-gt1 : goal.halves-preserved-then-part-gt1
halves-preserved-then-part-gt1 c =
    let (same, (high, order)) = c.halves.invariant in
    let half = half-at c.halves.levels c.args.at high c.halves.part.now order c.if-part-gt1.true in
    rw c.half-part.ensures.value (same ∙ half.0, half.1)

pub returns-then-stmt-at : goal.returns-then-stmt-at
returns-then-stmt-at c =
    let stmt = c.index-part-0.result in
    let one = find_first-one (find_at c.halves.levels c.args.at) c.halves.part.now stmt (omega arith) (omega arith) in
    let one' = rw (← c.index-part-0.is) at one in
    let here : ((out-Stmt stmt).at == c.args.at) ≡ true = grind (arith, nat_tests) in
    sym (c.halves.invariant.0 ∙ one' ∙ find_at-any c.halves.levels c.args.at stmt here)

pub returns-then-levels-eq0 : goal.returns-then-levels-eq0
returns-then-levels-eq0 c =
    let stmt = c.index-part-0.result in
    let one = find_first-one (find_at c.halves.levels c.args.at) c.halves.part.now stmt (omega arith) (omega arith) in
    let one' = rw (← c.index-part-0.is) at one in
    let last = find_at-zero c.args.at stmt in
    grind (arith, nat_tests, common_steps)

pub halves-preserved : goal.halves-preserved
halves-preserved c =
    let (same, (high, order)) = c.halves.invariant in
    let stmt = c.index-part-0.result in
    let one = find_first-one (find_at c.halves.levels c.args.at) c.halves.part.now stmt (omega arith) (omega arith) in
    let one' = rw (← c.index-part-0.is) at one in
    let other : ((out-Stmt stmt).at == c.args.at) ≡ false = grind (arith, nat_tests) in
    let more = find_at-more c.halves.levels c.args.at stmt (omega arith) in
    let below = rw other at more in
    let whole = order-one (is_in_order c.halves.levels) high c.halves.part.now stmt (omega arith) (omega arith) order in
    let whole' = rw (← c.index-part-0.is) at whole in
    rw c.items-part.ensures (same ∙ one' ∙ below, (high, order-below c.halves.levels high stmt (omega arith) whole'))
