use Rattle.std.proofs.Common.{rules, ◌≡◌, ◌++◌, ◌∷◌, [], length, sym, ap, ◌∙◌, arith}
use Rattle.sal_check.specs.Nodes.{steps_in}
use Rattle.sal_check.proofs.Trails.{steps_in-at, steps_in-all, steps_in-length, take-length, joined-long, joined-short}
use Rattle.sal_check.proofs.trail.path_of.Goals as goal

pub returns-in-Err-TooDeep : goal.returns-in-Err-TooDeep
returns-in-Err-TooDeep c =
    let trail = c.args.trail.now in
    let full : length c.loop-step.path ≡ 32 = search rules in
    let low = c.loop-step-test.true in
    let size = steps_in-length trail in
    let so_far = ap length c.loop-step.invariant ∙ take-length (steps_in trail) c.loop-step.step-index (omega (arith, low, size)) in
    joined-long (steps_in trail) (omega (arith, full, so_far, low, size))

pub loop-step-preserved : goal.loop-step-preserved
loop-step-preserved c =
    let x = c.step-item.result in
    c.in-Ok.ensures.ok ∙ (λ k. c.loop-step.invariant k ++ c.in_ok-copy.ensures k ∷ [])
    ∙ sym (steps_in-at c.args.trail.now c.loop-step.step-index x c.loop-step-test.true c.step-item.is)

pub returns : goal.returns
returns c = joined-short c.loop-step.path (steps_in c.args.trail.now) (c.loop-step.invariant ∙ steps_in-all c.args.trail.now c.loop-step.step-index c.loop-step-test.false) c.steps.ensures.short
