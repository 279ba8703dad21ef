use Rattle.std.proofs.Common.{arith}
use Rattle.std.proofs.lemmas.Grind.{common_steps}
use Rattle.std.proofs.lemmas.Bool.Decides.{nat_tests}
use Rattle.sal_restrict.proofs.Places.{place_of-at}
use Rattle.sal_restrict.proofs.words.place_of.Goals as goal

pub returns-then-starts_with-clause-value : goal.returns-then-starts_with-clause-value
returns-then-starts_with-clause-value c =
    let step = place_of-at c.args.word.now c.args.text.now c.loop-i.i (omega arith) in
    grind (arith, nat_tests, common_steps)

pub loop-i-preserved : goal.loop-i-preserved
loop-i-preserved c =
    let step = place_of-at c.args.word.now c.args.text.now c.loop-i.i (omega arith) in
    grind (arith, nat_tests, common_steps)
