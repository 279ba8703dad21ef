use Rattle.std.proofs.Common.{◌≤◌, ◌∙◌, take, length, ap, arith}
use Rattle.std.proofs.lemmas.List.{length-take-le}
use Rattle.std.proofs.lemmas.Grind.{common_steps}
use Rattle.sal_tx.proofs.steps.first_steps.Goals as goal

pub add-requires : goal.add-requires
add-requires c =
    let steps = c.steps-2.result.now in
    let same = ap length c.steps-2.ensures.all in
    let within : c.args.depth ≤ length steps = grind (arith, common_steps) in
    let size = length-take-le c.args.depth steps within in
    let so_far = ap length c.loop-step.invariant ∙ length-take-le c.loop-step.step-index (take c.args.depth steps) (omega (arith, c.loop-step-test.true, size)) in
    omega (arith, c.loop-step-test.true, size, so_far, same, c.steps-2.ensures.short)
