use Rattle.std.proofs.Common.{arith}
use Rattle.std.proofs.lemmas.Grind.{common_steps}
use Rattle.std.proofs.lemmas.Bool.Decides.{nat_tests}
use Rattle.sal_pathtext.proofs.Quotes.{stands_at, double-none, double-one}
use Rattle.sal_pathtext.proofs.words.double.Goals as goal

pub returns-then-at-s-clause-value : goal.returns-then-at-s-clause-value
returns-then-at-s-clause-value c _ =
    let no = double-none c.args.s.now (grind (arith, nat_tests, common_steps)) in
    grind (arith, nat_tests, common_steps)

pub front-requires-clause-ascii : goal.front-requires-clause-ascii
front-requires-clause-ascii c =
    let one = stands_at 34 c.args.s.now (grind (arith, nat_tests, common_steps)) in
    grind (arith, nat_tests, common_steps)

pub tail-requires-clause-ascii : goal.tail-requires-clause-ascii
tail-requires-clause-ascii c =
    let one = stands_at 34 c.args.s.now (grind (arith, nat_tests, common_steps)) in
    grind (arith, nat_tests, common_steps)

pub returns-clause-value : goal.returns-clause-value
returns-clause-value c =
    let yes = double-one c.args.s.now (grind (arith, nat_tests, common_steps)) in
    grind (arith, nat_tests, common_steps)
