use Rattle.std.proofs.Common.{◌∙◌, ◌+◌, string_bytes, rules, arith, sym}
use Rattle.std.proofs.lemmas.Grind.{common_steps}
use Rattle.std.proofs.lemmas.Bool.Decides.{nat_tests}
use Rattle.sal_stmt.specs.Quoted.{content}
use Rattle.sal_stmt.proofs.Quotes.{lines_done, lines_more, line_starts_break}
use Rattle.sal_stmt.proofs.quoted.content.Goals as goal

pub lines-init : goal.lines-init
unfolding content
lines-init c = (search rules, grind (arith, common_steps))

pub returns-then-is_empty : goal.returns-then-is_empty
returns-then-is_empty c =
    let parts = c.split_line.ensures in
    let turn = lines_done (string_bytes c.lines.out) c.lines.indent (c.args.column + 1) c.lines.rest.now _ _ parts.line parts.rest (grind (arith, nat_tests, common_steps)) in
    sym (c.lines.invariant.1 ∙ turn ∙ grind (arith, common_steps))

pub tail-rest-requires-clause-ascii : goal.tail-rest-requires-clause-ascii
tail-rest-requires-clause-ascii c =
    let stop = line_starts_break c.lines.rest.now _ c.split_line.ensures.rest (grind (arith, nat_tests, common_steps)) in
    grind (arith, common_steps)

pub lines-preserved : goal.lines-preserved
lines-preserved c =
    let parts = c.split_line.ensures in
    let turn = lines_more (string_bytes c.lines.out) c.lines.indent (c.args.column + 1) c.lines.rest.now _ _ parts.line parts.rest (grind (arith, nat_tests, common_steps)) in
    (search rules, c.lines.invariant.1 ∙ turn ∙ grind (arith, common_steps))
