-- Whether there is a row at or below the node.
use Rattle.std.proofs.Common.{Some, ap, sym, subst, ◌∙◌}
use Rattle.sal_node.specs.Tree.{Tree, IsGrove}
use Rattle.sal_tree.specs.Grow.{at, present}
use Rattle.sal_tree.proofs.Cells.{has-rows_of}
use Rattle.sal_graft.proofs.standing.stands.Goals as goal

pub reached-requires : goal.reached-requires
reached-requires c = subst (λ (t : Tree). IsGrove t.kids) (sym c.node.ensures.tree) c.node.ensures.whole.ordered

pub returns : goal.returns
returns c =
    c.is_present.ensures ∙ ap present c.reached.ensures.node ∙ ap (λ (t : Tree). present (at (Some t) c.args.steps.now)) c.node.ensures.tree
    ∙ sym (has-rows_of c.args.tree.now c.node.ensures.whole.ordered c.args.steps.now)
