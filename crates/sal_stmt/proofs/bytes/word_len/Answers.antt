use Rattle.std.proofs.Common.{drop, arith}
use Rattle.std.proofs.lemmas.Grind.{common_steps}
use Rattle.sal_stmt.proofs.Words.{word_len-stop, word_len-go_at, word_len-none}
use Rattle.sal_stmt.proofs.bytes.word_len.Goals as goal

pub returns-then-ends_word-clause-len : goal.returns-then-ends_word-clause-len
returns-then-ends_word-clause-len c =
    let stop = word_len-stop (drop c.loop-i.i c.args.bytes.now) (grind (arith, common_steps)) in
    omega (arith, c.loop-i.invariant)

pub loop-i-preserved : goal.loop-i-preserved
loop-i-preserved c =
    let go = word_len-go_at c.args.bytes.now c.loop-i.i (omega arith) (grind (arith, common_steps)) in
    omega (arith, c.loop-i.invariant)

pub returns-clause-len : goal.returns-clause-len
returns-clause-len c = grind (arith, common_steps, word_len-none)
