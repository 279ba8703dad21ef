use Rattle.std.proofs.Common.{arith}
use Rattle.std.proofs.lemmas.Grind.{common_steps}
use Rattle.std.proofs.lemmas.Bool.Decides.{nat_tests}
use Rattle.sal_module.proofs.Paths.{names-last, names-more}
use Rattle.sal_module.proofs.argument.all_names.Goals as goal

pub returns-then-len-rest : goal.returns-then-len-rest
returns-then-len-rest c =
    let rest = c.names.rest.now in
    let last = names-last rest (grind (arith, common_steps)) in
    grind (arith, nat_tests, common_steps)

pub returns-then-not-is_keyword : goal.returns-then-not-is_keyword
returns-then-not-is_keyword c =
    let rest = c.names.rest.now in
    let more = names-more rest (grind (arith, common_steps)) in
    grind (arith, nat_tests, common_steps)

pub names-preserved : goal.names-preserved
names-preserved c =
    let rest = c.names.rest.now in
    let more = names-more rest (grind (arith, common_steps)) in
    grind (arith, nat_tests, common_steps)
