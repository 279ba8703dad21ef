use Rattle.std.proofs.Common.{◌≡◌, ◌∙◌, ◌-◌, ◌==◌, false, sym, ap, arith}
use Rattle.std.proofs.lemmas.Bool.Decides.{nat_tests}
use Rattle.sal_grouping.specs.Names.{home}
use Rattle.sal_grouping.proofs.LookUps.{home-zero, home-none, home-here, home-next}
use Rattle.sal_grouping.proofs.names.+home.Goals as goal

pub returns-then-levels-eq0 : goal.returns-then-levels-eq0
returns-then-levels-eq0 t c =
    let a = c.args in
    let none : a.levels ≡ 0 = omega arith in
    sym (home-zero a.rows.now a.block) ∙ ap (λ n. home n a.rows.now a.block) (sym none)

pub returns-in-None : goal.returns-in-None
returns-in-None t c = let a = c.args in sym (ap (λ b. home a.levels a.rows.now b) c.in-None.is ∙ home-none a.levels a.rows.now)

pub returns-then-is_grouping : goal.returns-then-is_grouping
returns-then-is_grouping t c =
    let a = c.args in
    let more : (a.levels == 0) ≡ false = grind (arith, nat_tests) in
    home-here a.levels a.rows.now a.block c.in-Some.b more c.in-Some.is (sym c.is_grouping.ensures ∙ c.if-is_grouping.true)

pub returns-else-is_grouping : goal.returns-else-is_grouping
returns-else-is_grouping t c =
    let a = c.args in
    let more : (a.levels == 0) ≡ false = grind (arith, nat_tests) in
    c.home.ensures ∙ ap (λ b. home (a.levels - 1) a.rows.now b) c.around_of.ensures
    ∙ home-next a.levels a.rows.now a.block c.in-Some.b more c.in-Some.is (sym c.is_grouping.ensures ∙ c.if-is_grouping.false)
