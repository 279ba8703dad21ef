use Rattle.std.proofs.Common.{◌≡◌, arith}
use Rattle.std.proofs.lemmas.Grind.{common_steps}
use Rattle.std.proofs.lemmas.Bool.Decides.{nat_tests}
use Rattle.sal_stmt.specs.Text.{argument}
use Rattle.std.proofs.lemmas.List.{length-take-le}
use Rattle.sal_stmt.specs.Words.{word_len}
use Rattle.sal_stmt.proofs.Words.{word_len-le}
use Rattle.sal_stmt.proofs.source.Source.argument.Goals as goal

pub returns-then-is_empty-clause-value : goal.returns-then-is_empty-clause-value
unfolding argument
returns-then-is_empty-clause-value c _ =
    let le = word_len-le c.args.s.now in
    let zero : word_len c.args.s.now ≡ 0 = grind (arith, nat_tests, common_steps, length-take-le) in
    grind (arith, nat_tests, common_steps)
