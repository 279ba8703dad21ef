use Rattle.std.proofs.Common.{◌∙◌, ◌++◌, string_bytes, rules, sym, ap, arith}
use Rattle.std.proofs.lemmas.Grind.{common_steps}
use Rattle.std.proofs.lemmas.Bool.Decides.{nat_tests}
use Rattle.sal_pathtext.proofs.Quotes.{stands_at, doubled-none, doubled-at}
use Rattle.sal_pathtext.proofs.write.push_doubled.Goals as goal

pub returns-then-at-rest : goal.returns-then-at-rest
returns-then-at-rest c =
    let l = c.pieces in
    let none = doubled-none l.rest.now (grind (arith, nat_tests, common_steps)) in
    sym (l.invariant.1 ∙ ap (λ t. string_bytes l.out ++ t) none ∙ grind (arith, common_steps))

pub front-requires-clause-ascii : goal.front-requires-clause-ascii
front-requires-clause-ascii c =
    let one = stands_at 39 c.pieces.rest.now (grind (arith, nat_tests, common_steps)) in
    grind (arith, nat_tests, common_steps)

pub tail-rest-requires-clause-ascii : goal.tail-rest-requires-clause-ascii
tail-rest-requires-clause-ascii c =
    let one = stands_at 39 c.pieces.rest.now (grind (arith, nat_tests, common_steps)) in
    grind (arith, nat_tests, common_steps)

pub pieces-preserved : goal.pieces-preserved
pieces-preserved c =
    let l = c.pieces in
    let turn = doubled-at l.rest.now (grind (arith, nat_tests, common_steps)) in
    (search rules, l.invariant.1 ∙ ap (λ t. string_bytes l.out ++ t) turn ∙ grind (arith, common_steps))
