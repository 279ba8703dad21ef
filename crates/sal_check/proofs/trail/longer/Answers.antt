use Rattle.std.proofs.Common.{◌++◌, ◌∷◌, [], sym, ap, ◌∙◌}
use Rattle.sal_check.specs.Nodes.{steps_in}
use Rattle.sal_check.proofs.Trails.{steps_in-push, steps_in-at, steps_in-all}
use Rattle.sal_check.proofs.trail.longer.Goals as goal

pub loop-above-preserved : goal.loop-above-preserved
loop-above-preserved c =
    let x = c.above-item.result in
    ap steps_in c.in_ok-push.ensures.items ∙ steps_in-push c.loop-above.list.items x
    ∙ (λ k. c.loop-above.invariant k ++ x.now ∷ [])
    ∙ sym (steps_in-at c.args.trail.now c.loop-above.above-index x c.loop-above-test.true c.above-item.is)

pub returns : goal.returns
returns c =
    ap steps_in c.in_ok-push-2.ensures.items ∙ steps_in-push c.loop-above.list.items c.args.step
    ∙ (λ k. (c.loop-above.invariant ∙ steps_in-all c.args.trail.now c.loop-above.above-index c.loop-above-test.false) k ++ c.args.step.now ∷ [])
