use Rattle.std.proofs.Common.{◌≡◌, ◌∙◌, ◌-◌, false, sym, arith, ◌==◌, get_or}
use Rattle.sal_stmt.specs.declared.stmt.Stmt.{out-Stmt}
use Rattle.std.proofs.lemmas.Grind.{common_steps}
use Rattle.std.proofs.lemmas.Bool.Decides.{nat_tests}
use Rattle.sal_module.specs.Statements.{subs_of}
use Rattle.sal_module.specs.Places.{find_at}
use Rattle.sal_module.proofs.Order.{find_at-zero, find_at-any, find_at-more, find_first-at}
use Rattle.sal_module.proofs.places.+find_anywhere.Goals as goal

pub returns-then-stmt-at : goal.returns-then-stmt-at
returns-then-stmt-at t c = sym (find_at-any c.args.levels c.args.at c.args.stmt.now (grind (arith, nat_tests)))

pub returns-then-levels-eq0 : goal.returns-then-levels-eq0
returns-then-levels-eq0 t c =
    let last = find_at-zero c.args.at c.args.stmt.now in
    grind (arith, nat_tests, common_steps)

pub returns-in-Some : goal.returns-in-Some
returns-in-Some t c =
    let more = find_at-more c.args.levels c.args.at c.args.stmt.now (omega arith) in
    let sub = c.sub-item.result in
    let step = find_first-at (find_at (c.args.levels - 1) c.args.at) (subs_of c.args.stmt.now) c.loop-sub.sub-index sub (grind (arith, common_steps)) in
    let is : sub ≡ get_or (subs_of c.args.stmt.now) c.loop-sub.sub-index sub = grind (arith, common_steps) in
    let there = rw (← is, ← c.in-Some.ensures) at step in
    let outside : ((out-Stmt c.args.stmt.now).at == c.args.at) ≡ false = grind (arith, nat_tests) in
    let below = rw outside at more in
    sym (below ∙ c.loop-sub.invariant ∙ there)

pub returns : goal.returns
returns t c =
    let more = find_at-more c.args.levels c.args.at c.args.stmt.now (omega arith) in
    grind (arith, nat_tests, common_steps)
