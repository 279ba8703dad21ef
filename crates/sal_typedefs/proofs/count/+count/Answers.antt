use Rattle.std.proofs.Common.{◌≡◌, ◌∙◌, ◌+◌, ◌-◌, take, ap, arith}
use Rattle.std.proofs.lemmas.Grind.{common_steps}
use Rattle.std.specs.List.{sum_by}
use Rattle.sal_module.specs.Statements.{subs_of}
use Rattle.sal_typedefs.specs.Names.{count}
use Rattle.sal_typedefs.proofs.SpotLists.{count-none, count-more}
use Rattle.sal_typedefs.proofs.count.+count.Goals as goal

pub returns-then-levels-eq0 : goal.returns-then-levels-eq0
returns-then-levels-eq0 t c =
    let a = c.args in
    c.in_ok-add.ensures ∙ ap (λ n. a.tally.now + n) (count-none a.levels a.stmt.now (omega arith))

pub returns : goal.returns
returns t c =
    let a = c.args in
    let whole : take c.loop-sub.sub-index (subs_of a.stmt.now) ≡ subs_of a.stmt.now = grind (arith, common_steps) in
    c.loop-sub.invariant ∙ ap (λ n. a.tally.now + n) (ap (λ subs. 1 + sum_by (count (a.levels - 1)) subs) whole ∙ count-more a.levels a.stmt.now (omega arith))
