use Rattle.std.proofs.Common.{Some, None, ap, ◌∙◌}
use Rattle.sal_tree.specs.Grow.{grow}
use Rattle.sal_tree.specs.Edit.{root_of}
use Rattle.sal_tree.proofs.Heights.{whole-cleared, whole-as}
use Rattle.sal_tree.proofs.root.Root.cleared.Goals as goal

pub from_node-requires : goal.from_node-requires
from_node-requires c = whole-as _ _ (c.in_ok-node-2.ensures ∙ ap (root_of c.args.stamp) (c.in_ok-node.ensures ∙ (λ i. grow c.args.stamp (Some (c.node.ensures.tree i)) (c.steps.ensures.all i) None)))
    (whole-cleared c.args.stamp c.args.self.now c.args.path.now c.node.ensures.whole c.steps.ensures.short)
