use Rattle.std.proofs.Common.{◌≡◌, ◌∙◌, ◌-◌, ◌+◌, ◌<◌, sym, ap, arith}
use Rattle.sal_module_table.specs.Leafrefs.{steps_up}
use Rattle.sal_module_table.proofs.Climbs.{up-zero, up-none, up-some}
use Rattle.sal_module_table.proofs.walk.steps_up.Goals as goal

pub returns-in-None : goal.returns-in-None
returns-in-None c =
    let a = c.args in
    let some : 0 < a.up - c.loop-i._i = omega arith in
    sym (c.loop-i.invariant ∙ up-none a.paths.now.modules.now a.paths.now.forest.now (a.up - c.loop-i._i) c.loop-i.place some (sym c.step_up.ensures ∙ c.in-None.is))

pub loop-i-preserved : goal.loop-i-preserved
loop-i-preserved c =
    let a = c.args in
    let rest = a.up - c.loop-i._i in
    let some : 0 < rest = omega arith in
    let less : rest - 1 ≡ a.up - (c.loop-i._i + 1) = omega arith in
    c.loop-i.invariant ∙ up-some a.paths.now.modules.now a.paths.now.forest.now rest c.loop-i.place c.in-Some.above some (sym c.step_up.ensures ∙ c.in-Some.is)
    ∙ ap (λ n. steps_up n a.paths.now.modules.now a.paths.now.forest.now c.in-Some.above) less

pub returns : goal.returns
returns c =
    let a = c.args in
    let none : a.up - c.loop-i._i ≡ 0 = omega arith in
    sym (c.loop-i.invariant ∙ ap (λ n. steps_up n a.paths.now.modules.now a.paths.now.forest.now c.loop-i.place) none ∙ up-zero a.paths.now.modules.now a.paths.now.forest.now c.loop-i.place)
