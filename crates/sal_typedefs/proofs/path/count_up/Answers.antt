use Rattle.std.proofs.Common.{◌≡◌, ◌∙◌, ◌∷◌, [], true, false, not, sym, ap, arith}
use Rattle.std.proofs.lemmas.Bool.Decides.{nat_tests}
use Rattle.std.specs.List.{prefix_len}
use Rattle.sal_typedefs.specs.Names.{is_up}
use Rattle.sal_typedefs.proofs.PathLists.{steps, steps-whole, steps-parts, stops}
use Rattle.sal_typedefs.proofs.path.count_up.Goals as goal

pub returns-else-eq : goal.returns-else-eq
returns-else-eq c =
    let rest = c.steps.rest.now in
    let whole : steps rest ≡ rest ∷ [] = steps-whole rest c.split_once.result c.split_once.ensures.cases c.in-None.is in
    let none = ap (prefix_len is_up) whole ∙ stops rest [] (sym c.eq.ensures ∙ c.if-eq.false) in
    omega (arith, c.steps.invariant.steps, none)

pub returns-then-ne : goal.returns-then-ne
returns-then-ne c =
    let rest = c.steps.rest.now in
    let step = c.in-Some.step.now in
    let parts = steps-parts rest c.split_once.result c.split_once.ensures.cases _ c.in-Some.is in
    let other : not (is_up step) ≡ true = sym c.ne.ensures ∙ c.if-ne.true in
    let no : is_up step ≡ false = grind (arith, nat_tests) in
    let none = ap (prefix_len is_up) parts ∙ stops step (steps c.in-Some.more.now) no in
    omega (arith, c.steps.invariant.steps, none)
