use Rattle.std.proofs.Common.{arith}
use Rattle.std.proofs.lemmas.Grind.{common_steps}
use Rattle.std.proofs.lemmas.Bool.Decides.{nat_tests}
use Rattle.sal_module.proofs.LeftOuts.{calls_deref-at, calls_deref-none}
use Rattle.sal_module.proofs.left_out.calls_deref.Goals as goal

pub returns-then-starts_call : goal.returns-then-starts_call
returns-then-starts_call c =
    let step = calls_deref-at c.loop-i.before c.args.path.now c.loop-i.i (omega arith) in
    grind (arith, nat_tests, common_steps)

pub loop-i-preserved : goal.loop-i-preserved
loop-i-preserved c =
    let step = calls_deref-at c.loop-i.before c.args.path.now c.loop-i.i (omega arith) in
    grind (arith, nat_tests, common_steps)

pub returns : goal.returns
returns c = grind (arith, nat_tests, common_steps, calls_deref-none)
