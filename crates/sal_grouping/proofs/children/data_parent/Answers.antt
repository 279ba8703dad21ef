use Rattle.std.proofs.Common.{◌≡◌, ◌∙◌, ◌-◌, ◌+◌, ◌<◌, sym, ap, arith}
use Rattle.sal_grouping.specs.Children.{data_parent}
use Rattle.sal_grouping.proofs.DataParents.{data-zero, data-stop, data-step}
use Rattle.sal_grouping.proofs.children.data_parent.Goals as goal

pub returns-in-None : goal.returns-in-None
returns-in-None c =
    let a = c.args in
    sym (c.loop-i.invariant ∙ data-stop (a.levels - c.loop-i._i) a.rows.now a.nodes.now c.loop-i.place (sym c.passed.ensures ∙ c.in-None.is))

pub loop-i-preserved : goal.loop-i-preserved
loop-i-preserved c =
    let a = c.args in
    let rest = a.levels - c.loop-i._i in
    let some : 0 < rest = omega arith in
    let less : rest - 1 ≡ a.levels - (c.loop-i._i + 1) = omega arith in
    c.loop-i.invariant ∙ data-step rest a.rows.now a.nodes.now c.loop-i.place c.in-Some.above some (sym c.passed.ensures ∙ c.in-Some.is)
    ∙ ap (λ n. data_parent n a.rows.now a.nodes.now c.in-Some.above) less

pub returns : goal.returns
returns c =
    let a = c.args in
    let none : a.levels - c.loop-i._i ≡ 0 = omega arith in
    sym (c.loop-i.invariant ∙ ap (λ n. data_parent n a.rows.now a.nodes.now c.loop-i.place) none ∙ data-zero a.rows.now a.nodes.now c.loop-i.place)
