-- The trees at the ends of the span are those of its commits.
use Rattle.std.proofs.Common.{rules, ◌≡◌, Some, ap, sym, subst, ◌∙◌}
use Rattle.sal_node.specs.Tree.{Tree, IsGrove}
use Rattle.sal_tree.specs.Alike.{alike}
use Rattle.sal_tree.specs.Grow.{at}
use Rattle.sal_tree.specs.declared.commit.Commit.{Commit}
use Rattle.sal_graft.specs.Following.{filled}
use Rattle.sal_graft.specs.Kept.{opening_in, ops_of, tree_in}
use Rattle.sal_graft.proofs.Empty.{unchanged-empty}
use Rattle.sal_graft.proofs.Stamps.{unchanged-alike}
use Rattle.sal_graft.proofs.span.is_unchanged.Goals as goal

pub returns-then-span : goal.returns-then-span
returns-then-span c =
    let empty : c.args.span.from ≡ c.args.span.to = search rules in
    sym (unchanged-empty (opening_in c.args.commits.now) (ops_of c.args.commits.now) c.args.store c.args.steps.now c.args.span empty)

pub returns : goal.returns
returns c =
    let before : c.tree_of-before.result.now ≡ tree_in c.index-commits-span.result.trees c.args.store =
    c.tree_of-before.ensures ∙ ap (λ (x : Commit). tree_in x.trees c.args.store) (sym c.index-commits-span.is) in
    let after : c.tree_of-after.result.now ≡ tree_in c.index-commits-span-2.result.trees c.args.store =
    c.tree_of-after.ensures ∙ ap (λ (x : Commit). tree_in x.trees c.args.store) (sym c.index-commits-span-2.is) in
    c.is_alike.ensures
    ∙ (λ i. alike (filled (at (Some (before i)) c.args.steps.now)) (filled (at (Some (after i)) c.args.steps.now)))
    ∙ unchanged-alike c.args.commits.now c.requires.kept c.requires.following c.args.span c.requires.span c.args.store c.args.steps.now c.index-commits-span.result c.index-commits-span-2.result
    c.index-commits-span.is c.index-commits-span-2.is
    (subst (λ (t : Tree). IsGrove t.kids) before c.node.ensures.whole.ordered)
    (subst (λ (t : Tree). IsGrove t.kids) after c.node-2.ensures.whole.ordered)
