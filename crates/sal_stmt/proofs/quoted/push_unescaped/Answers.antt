use Rattle.std.proofs.Common.{◌∙◌, ◌<◌, string_bytes, rules, arith, sym}
use Rattle.std.proofs.lemmas.Grind.{common_steps}
use Rattle.std.proofs.lemmas.Bool.Decides.{nat_tests}
use Rattle.sal_stmt.proofs.Quotes.{unescape_done, unescape_escape, unescape_other, starts_backslash}
use Rattle.sal_stmt.proofs.quoted.push_unescaped.Goals as goal

pub returns-then-is_empty : goal.returns-then-is_empty
returns-then-is_empty c =
    let parts = c.split_plain.ensures in
    let turn = unescape_done (string_bytes c.pieces.out) c.pieces.rest.now _ _ parts.plain parts.rest (grind (arith, nat_tests, common_steps)) in
    sym (c.pieces.invariant.1 ∙ turn ∙ grind (arith, common_steps))

pub pieces-preserved-then-is_escape : goal.pieces-preserved-then-is_escape
pieces-preserved-then-is_escape c =
    let parts = c.split_plain.ensures in
    let turn = unescape_escape (string_bytes c.pieces.out) c.pieces.rest.now _ _ parts.plain parts.rest (grind (arith, nat_tests, common_steps)) (grind (arith, common_steps)) in
    let ascii : c.from.result < 128 = grind (arith, nat_tests, common_steps) in
    let one = c.in_ok-push.ensures.ascii ascii in
    (search rules, c.pieces.invariant.1 ∙ turn ∙ grind (arith, common_steps, one))

pub tail-rest-requires-else-is_escape-clause-ascii : goal.tail-rest-requires-else-is_escape-clause-ascii
tail-rest-requires-else-is_escape-clause-ascii c =
    let parts = c.split_plain.ensures in
    let stop = starts_backslash (string_bytes c.pieces.out) c.pieces.rest.now _ _ parts.plain parts.rest (grind (arith, nat_tests, common_steps)) in
    grind (arith, common_steps)

pub pieces-preserved : goal.pieces-preserved
pieces-preserved c =
    let parts = c.split_plain.ensures in
    let turn = unescape_other (string_bytes c.pieces.out) c.pieces.rest.now _ _ parts.plain parts.rest (grind (arith, nat_tests, common_steps)) (grind (arith, common_steps)) in
    (search rules, c.pieces.invariant.1 ∙ turn ∙ grind (arith, common_steps))
