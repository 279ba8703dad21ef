use Rattle.std.proofs.Common.{◌≡◌, ◌∙◌, ◌-◌, ◌==◌, false, sym, ap, arith}
use Rattle.std.proofs.lemmas.Bool.Decides.{nat_tests}
use Rattle.sal_grouping.specs.Groupings.{from_block}
use Rattle.sal_grouping.proofs.LookUps.{from_block-zero, from_block-none, from_block-found, from_block-next}
use Rattle.sal_grouping.proofs.look_up.+from_block.Goals as goal

pub returns-then-levels-eq0 : goal.returns-then-levels-eq0
returns-then-levels-eq0 t c =
    let a = c.args in
    let none : a.levels ≡ 0 = omega arith in
    sym (from_block-zero a.rows.now a.name.now a.block) ∙ ap (λ n. from_block n a.rows.now a.name.now a.block) (sym none)

pub returns-in-None : goal.returns-in-None
returns-in-None t c = let a = c.args in sym (ap (λ b. from_block a.levels a.rows.now a.name.now b) c.in-None.is ∙ from_block-none a.levels a.rows.now a.name.now)

pub returns-in-Some-first_of : goal.returns-in-Some-first_of
returns-in-Some-first_of t c =
    let a = c.args in
    let more : (a.levels == 0) ≡ false = grind (arith, nat_tests) in
    from_block-found a.levels a.rows.now a.name.now a.block c.in-Some.b c.in-Some-first_of.found more c.in-Some.is c.in-Some-first_of.ensures

pub returns-in-None-first_of : goal.returns-in-None-first_of
returns-in-None-first_of t c =
    let a = c.args in
    let more : (a.levels == 0) ≡ false = grind (arith, nat_tests) in
    c.from_block.ensures ∙ ap (λ b. from_block (a.levels - 1) a.rows.now a.name.now b) c.around_of.ensures
    ∙ from_block-next a.levels a.rows.now a.name.now a.block c.in-Some.b more c.in-Some.is c.in-None-first_of.ensures
