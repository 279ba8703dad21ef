use Rattle.std.proofs.Common.{◌≡◌, ◌∙◌, ◌++◌, take, ap, arith}
use Rattle.std.proofs.lemmas.Grind.{common_steps}
use Rattle.sal_lint.proofs.Modules.{all, next}
use Rattle.sal_lint.proofs.lines.push_modules.Goals as goal

pub loop-number-preserved : goal.loop-number-preserved
loop-number-preserved c =
    next c.args.device c.loop-number.number c.args.texts.now _ c.args.out.now.items c.loop-number.out.items c.push_module.new.out.items
    c.loop-number-test.true c.loop-number.invariant c.in_ok-push_module.ensures

pub returns : goal.returns
returns c =
    let whole : take c.loop-number.number c.args.texts.now ≡ c.args.texts.now = grind (arith, common_steps) in
    let at_end = rw whole at c.loop-number.invariant in
    at_end ∙ ap (λ lines. c.args.out.now.items ++ lines) (all c.args.device 0 c.args.texts.now)
