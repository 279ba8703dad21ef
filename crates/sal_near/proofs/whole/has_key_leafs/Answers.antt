use Rattle.std.proofs.Common.{◌≡◌, ℕ, true, List, [], ◌∷◌, drop, refl, sym, ap, ◌∙◌, arith}
use Rattle.std.proofs.lemmas.Grind.{common_steps}
use Rattle.sal_types.specs.declared.value.Step.{Step}
use Rattle.sal_types.specs.declared.value.Value.{Value}
use Rattle.sal_types.specs.declared.row.Row.{Row}
use Rattle.sal_schema.specs.Fitting.{has_key_leafs}
use Rattle.sal_near.proofs.whole.has_key_leafs.Goals as goal

no_values : (rows : List Row) (p : List Step) (leafs : List ℕ) → has_key_leafs rows p leafs [] ≡ true
no_values rows p [] = refl
no_values rows p (leaf ∷ leafs) = refl

pub returns-then-i-values : goal.returns-then-i-values
returns-then-i-values c =
    let rows = c.args.rows.now in
    let p = c.args.steps.now in
    let leafs = drop c.loop-i.i c.args.leafs.now in
    let none : drop c.loop-i.i c.args.values.now ≡ [] = grind (arith, common_steps) in
    sym (c.loop-i.invariant ∙ ap (λ (values : List Value). has_key_leafs rows p leafs values) none ∙ no_values rows p leafs)
