use Rattle.std.proofs.Common.{rules, ◌≡◌, true, ◌++◌, List, Some, ap, sym, ◌∙◌, subst, length}
use Rattle.sal_node.specs.Shape.{tree_at}
use Rattle.sal_tree.specs.Grow.{at}
use Rattle.sal_tree.specs.Alike.{alike}
use Rattle.sal_rows.specs.declared.change.Change.{Change}
use Rattle.sal_delta.specs.Spots.{Stands}
use Rattle.sal_delta.proofs.Tops.{agree-at, stands-at}
use Rattle.sal_delta.proofs.Exact.{alike-changes, walked-changes, append_none}
use Rattle.sal_delta.proofs.find.add_changes.Goals as goal

pub returns-then-is_alike : goal.returns-then-is_alike
returns-then-is_alike c =
    let same : alike (at (Some c.args.before.now) c.args.path.now) (at (Some c.args.after.now) c.args.path.now) ≡ true = search rules in
    sym (append_none c.args.into.now.items)
    ∙ ap (λ (l : List Change). c.args.into.now.items ++ l) (alike-changes c.args.before.now c.args.after.now c.args.path.now c.node.ensures.whole c.node-2.ensures.whole c.requires same)

pub walk-requires-clause-before : goal.walk-requires-clause-before
walk-requires-clause-before c = subst (λ o. Stands o (length c.args.path.now)) (sym c.get.ensures) (stands-at c.args.before.now c.args.path.now c.node.ensures.whole c.steps.ensures.short)

pub walk-requires-clause-after : goal.walk-requires-clause-after
walk-requires-clause-after c = subst (λ o. Stands o (length c.args.path.now)) (sym c.get-2.ensures) (stands-at c.args.after.now c.args.path.now c.node-2.ensures.whole c.steps.ensures.short)

pub walk-requires-clause-agree : goal.walk-requires-clause-agree
walk-requires-clause-agree c r n m a b e = agree-at c.args.before.now c.args.after.now c.args.path.now c.requires r n m (ap (λ o. at o r) (sym c.get.ensures) ∙ a) (ap (λ o. at o r) (sym c.get-2.ensures) ∙ b) e

pub returns : goal.returns
returns c = c.in_ok-walk.ensures ∙ ap (λ (l : List Change). c.args.into.now.items ++ l) (walked-changes c.args.before.now c.args.after.now c.args.path.now (tree_at c.get.result) (tree_at c.get-2.result) c.node.ensures.whole c.node-2.ensures.whole c.get.ensures c.get-2.ensures)
