use Rattle.std.proofs.Common.{arith}
use Rattle.std.proofs.lemmas.Grind.{common_steps}
use Rattle.sal_stmt.proofs.Quotes.{unescape-spaces}
use Rattle.sal_stmt.proofs.quoted.push_line.Goals as goal

pub returns : goal.returns
returns c =
    let spaces = unescape-spaces c.without_indent-spaces.result.0 c.without_indent-spaces.result.1.now in
    grind (arith, common_steps)
