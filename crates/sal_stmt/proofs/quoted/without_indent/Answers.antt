use Rattle.std.proofs.Common.{rules, arith}
use Rattle.std.proofs.lemmas.Grind.{common_steps}
use Rattle.std.proofs.lemmas.Bool.Decides.{nat_tests}
use Rattle.sal_stmt.proofs.Quotes.{without_indent_at}
use Rattle.sal_stmt.proofs.quoted.without_indent.Goals as goal

pub indent-preserved-then-c-eq32 : goal.indent-preserved-then-c-eq32
indent-preserved-then-c-eq32 c =
    let step = without_indent_at c.indent.width c.indent.rest.now in
    (search rules, grind (arith, nat_tests, common_steps))

pub returns-then-c-ne9-clause-value : goal.returns-then-c-ne9-clause-value
returns-then-c-ne9-clause-value c =
    let step = without_indent_at c.indent.width c.indent.rest.now in
    grind (arith, nat_tests, common_steps)

pub indent-preserved : goal.indent-preserved
indent-preserved c =
    let step = without_indent_at c.indent.width c.indent.rest.now in
    (search rules, grind (arith, nat_tests, common_steps))

pub returns-else-width-ge8-clause-value : goal.returns-else-width-ge8-clause-value
returns-else-width-ge8-clause-value c =
    let step = without_indent_at c.indent.width c.indent.rest.now in
    grind (arith, nat_tests, common_steps)

pub returns-clause-value : goal.returns-clause-value
returns-clause-value c =
    let step = without_indent_at c.indent.width c.indent.rest.now in
    grind (arith, nat_tests, common_steps)
