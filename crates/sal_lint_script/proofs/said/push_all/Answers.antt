use Rattle.std.proofs.Common.{◌<◌, length, arith}
use Rattle.std.proofs.lemmas.Grind.{common_steps}
use Rattle.sal_script.specs.Reading.{parts}
use Rattle.sal_lint_script.specs.Linted.{texts_by}
use Rattle.sal_lint_script.proofs.Domains.{next}
use Rattle.sal_lint_script.proofs.said.push_all.Goals as goal

pub loop-number-preserved : goal.loop-number-preserved
loop-number-preserved c =
    let all = texts_by (parts c.args.script.now) in
    let within : c.loop-number.number < length all = grind (arith, common_steps) in
    next c.loop-number.number all c.args.out.now.items c.loop-number.out.items c.push_domain.new.out.items within c.loop-number.invariant c.in_ok-push_domain.ensures
