use Rattle.std.proofs.Common.{◌≡◌, ◌∙◌, ◌+◌, ◌-◌, ◌<◌, [], ◌∷◌, ◌++◌, length, rules, sym, ap, arith, length-append}
use Rattle.std.proofs.lemmas.Grind.{common_steps}
use Rattle.std.proofs.lemmas.Bool.Decides.{nat_tests}
use Rattle.sal_pathtext.specs.Read.{steps}
use Rattle.sal_pathtext.proofs.Steps.{behind, behind-one, steps-end, steps-full, steps_at}
use Rattle.sal_pathtext.proofs.read.steps.Goals as goal

pub returns-then-steps-ge-MAX_STEPS : goal.returns-then-steps-ge-MAX_STEPS
returns-then-steps-ge-MAX_STEPS c known =
    let l = c.steps in
    let table = c.args.reader.now.schema.now in
    let whole = c.args.reader.now.text.now in
    let full : 32 - length l.path ≡ 0 = grind (arith, nat_tests, common_steps) in
    let low : 0 < length l.rest.now = grind (arith, nat_tests, common_steps) in
    let turn = steps-full table whole l.here l.rest.now low in
    l.invariant.2 ∙ ap (λ k. behind l.path (steps table whole k l.here l.rest.now)) full ∙ ap (behind l.path) (turn ∙ c.one_more.ensures known)

pub steps-preserved : goal.steps-preserved
steps-preserved c =
    let l = c.steps in
    let table = c.args.reader.now.schema.now in
    let whole = c.args.reader.now.text.now in
    let room = 32 - length l.path in
    let next = c.in-Ok.next in
    let after = c.in-Ok.after.now in
    let low : 0 < length l.rest.now = grind (arith, nat_tests, common_steps) in
    let some : 0 < 32 - length l.path = grind (arith, nat_tests, common_steps) in
    let turn = rw c.in-Ok.ensures at (steps_at table whole room l.here l.rest.now low some) in
    let added : c.add.new.path ≡ l.path ++ c.in-Ok.step ∷ [] = grind (arith, common_steps) in
    let longer : length c.add.new.path ≡ length l.path + 1 = ap length added ∙ length-append l.path (c.in-Ok.step ∷ []) in
    let less : 32 - length l.path - 1 ≡ 32 - length c.add.new.path = omega (arith, longer) in
    (search rules, omega (arith, some, longer), l.invariant.2 ∙ ap (behind l.path) turn ∙ behind-one l.path c.in-Ok.step (steps table whole (room - 1) next after) ∙ ap (λ p. behind p (steps table whole (room - 1) next after)) (sym added) ∙ ap (λ k. behind c.add.new.path (steps table whole k next after)) less)

pub returns-in-Err : goal.returns-in-Err
returns-in-Err c known =
    let l = c.steps in
    let table = c.args.reader.now.schema.now in
    let whole = c.args.reader.now.text.now in
    let low : 0 < length l.rest.now = grind (arith, nat_tests, common_steps) in
    let some : 0 < 32 - length l.path = grind (arith, nat_tests, common_steps) in
    let failed = c.in-Err.ensures known in
    let turn = rw failed at (steps_at table whole (32 - length l.path) l.here l.rest.now low some) in
    l.invariant.2 ∙ ap (behind l.path) turn

pub returns : goal.returns
returns c =
    let l = c.steps in
    let table = c.args.reader.now.schema.now in
    let whole = c.args.reader.now.text.now in
    let none : length l.rest.now ≡ 0 = grind (arith, nat_tests, common_steps) in
    let done = steps-end table whole (32 - length l.path) l.here l.rest.now none in
    l.invariant.2 ∙ ap (behind l.path) done ∙ grind (arith, common_steps)
