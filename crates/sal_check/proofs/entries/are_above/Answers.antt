use Rattle.std.proofs.Common.{◌≡◌, ℕ, ◌≤◌, false, length, nat_lt, ap, sym, ◌∙◌, arith}
use Rattle.std.proofs.lemmas.Bool.Decides.{nat_tests}
use Rattle.sal_node.specs.Tree.{Tree, pairs}
use Rattle.sal_node.specs.Shape.{tree_at}
use Rattle.sal_tree.specs.Grow.{kids_in}
use Rattle.sal_check.specs.Nodes.{own_steps}
use Rattle.sal_check.proofs.Counted.{own_steps-within}
use Rattle.sal_check.proofs.entries.are_above.Goals as goal

not_above : (most n : ℕ) → n ≤ most → false ≡ nat_lt most n
not_above most n l = grind (arith, nat_tests)

pub returns-then-has_at_most : goal.returns-then-has_at_most
returns-then-has_at_most c =
    let kids = kids_in (tree_at c.args.node) in
    let few : length (pairs c.deref.result.now.kids) ≤ c.args.most = c.has_at_most.ensures.0 c.if-has_at_most.true in
    let same : kids ≡ pairs c.deref.result.now.kids = ap (λ o. kids_in (tree_at o)) c.in-Some.is ∙ sym (ap (λ (t : Tree). pairs t.kids) c.deref.ensures) in
    not_above c.args.most (length (own_steps kids)) (omega (arith, few, ap length same, own_steps-within kids))
