use Rattle.std.proofs.Common.{Some, ap, ◌∙◌}
use Rattle.sal_tree.specs.Grow.{grow}
use Rattle.sal_tree.specs.Edit.{root_of, kids_at}
use Rattle.sal_tree.proofs.Heights.{whole-with_row, whole-as}
use Rattle.sal_tree.proofs.root.Root.with_row.Goals as goal

pub from_node-requires : goal.from_node-requires
from_node-requires c =
    let new = c.in_ok-node-2.ensures.ok ∙ c.in_ok-node.ensures ∙ (λ i. record { stamp = c.args.stamp; cell = Some (c.in_ok-cell.ensures i); kids = kids_at (c.get.ensures i) }) in
    whole-as _ _ (c.in_ok-node-4.ensures ∙ ap (root_of c.args.stamp) (c.in_ok-node-3.ensures ∙ (λ i. grow c.args.stamp (Some (c.node.ensures.tree i)) (c.steps.ensures.all i) (Some (new i)))))
    (whole-with_row c.args.stamp c.args.self.now c.args.row.now c.node.ensures.whole c.steps.ensures.short)
