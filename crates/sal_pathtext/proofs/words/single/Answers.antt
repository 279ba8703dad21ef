use Rattle.std.proofs.Common.{◌≡◌, ◌∙◌, ◌+◌, ◌++◌, [], ◌∷◌, take, drop, string_bytes, Ok, ap, rules, arith}
use Rattle.std.proofs.lemmas.Grind.{common_steps}
use Rattle.std.proofs.lemmas.Bool.Decides.{nat_tests}
use Rattle.sal_types.specs.Reading.{with_front}
use Rattle.sal_pathtext.specs.Words.{single}
use Rattle.sal_pathtext.proofs.Quotes.{before, stands_at, single-none, single-at, with_front-with_front}
use Rattle.sal_pathtext.proofs.words.single.Goals as goal

pub returns-then-at-rest-clause-value : goal.returns-then-at-rest-clause-value
returns-then-at-rest-clause-value c _ =
    let rest = c.pieces.rest.now in
    let none = single-none c.args.whole.now rest (grind (arith, nat_tests, common_steps)) in
    c.pieces.invariant.2 ∙ ap (with_front (string_bytes c.pieces.out)) none ∙ grind (arith, nat_tests, common_steps)

pub front-requires-clause-ascii : goal.front-requires-clause-ascii
front-requires-clause-ascii c =
    let one = stands_at 39 c.pieces.rest.now (grind (arith, nat_tests, common_steps)) in
    grind (arith, nat_tests, common_steps)

pub tail-after-requires-clause-ascii : goal.tail-after-requires-clause-ascii
tail-after-requires-clause-ascii c =
    let one = stands_at 39 c.pieces.rest.now (grind (arith, nat_tests, common_steps)) in
    grind (arith, nat_tests, common_steps)

pub returns-then-first-ne39-clause-value : goal.returns-then-first-ne39-clause-value
returns-then-first-ne39-clause-value c =
    let rest = c.pieces.rest.now in
    let out = string_bytes c.pieces.out in
    let turn = single-at c.args.whole.now rest (grind (arith, nat_tests, common_steps)) in
    let done : single c.args.whole.now rest ≡ Ok (take (before 39 rest) rest, drop (before 39 rest + 1) rest) = grind (arith, nat_tests, common_steps) in
    c.pieces.invariant.2 ∙ ap (with_front out) done ∙ grind (arith, nat_tests, common_steps)

pub pieces-preserved : goal.pieces-preserved
pieces-preserved c =
    let rest = c.pieces.rest.now in
    let out = string_bytes c.pieces.out in
    let whole = c.args.whole.now in
    let turn = single-at whole rest (grind (arith, nat_tests, common_steps)) in
    let done : single whole rest ≡ with_front (take (before 39 rest) rest ++ 39 ∷ []) (single whole c.tail-rest.result.now) = grind (arith, nat_tests, common_steps) in
    let one = c.in_ok-push.ensures.ascii (omega arith) in
    (search rules, grind (arith, common_steps), c.pieces.invariant.2 ∙ ap (with_front out) done ∙ with_front-with_front out _ _ ∙ ap (λ t. with_front t (single whole c.tail-rest.result.now)) (grind (arith, nat_tests, common_steps)))
