use Rattle.std.proofs.Common.{Some, ap, sym, ◌∙◌, subst}
use Rattle.sal_types.specs.Tree.{cell}
use Rattle.sal_rows.specs.declared.op.Act.TheVariants.{Put}
use Rattle.sal_node.specs.Tree.{Tree}
use Rattle.sal_tree.specs.Grow.{grow}
use Rattle.sal_tree.specs.Rows.{rows_of}
use Rattle.sal_tree.specs.Edit.{root_of}
use Rattle.sal_tree.specs.Follows.{Follows, exactly}
use Rattle.sal_tree.specs.Touched.{act_touches}
use Rattle.sal_tree.proofs.Putting.{put-built, rising-behind}
use Rattle.sal_tree.proofs.root.Root.with_built.Goals as goal

pub build-requires-clause-ascending : goal.build-requires-clause-ascending
build-requires-clause-ascending c = rising-behind c.args.path.now c.steps-steps.result.now c.args.rows.now c.steps-steps.ensures.all c.requires.under c.requires.order

pub from_node-requires : goal.from_node-requires
from_node-requires c =
    let made = put-built c.args.stamp c.args.self.now c.args.path.now c.steps-steps.result.now c.args.rows.now c.in_ok-built.built c.in_ok-node-2.node.value c.node.ensures.whole c.steps-steps.ensures.short c.steps-steps.ensures.all c.requires.some c.requires.under c.in_ok-built.ensures
    (c.in_ok-node-2.ensures ∙ ap (root_of c.args.stamp) (c.in_ok-node.ensures ∙ (λ i. grow c.args.stamp (Some (c.node-2.ensures.tree i)) (c.steps-steps.ensures.all i) (Some (c.in_ok-built-2.ensures.ok i))))) in
    made.whole

pub returns-clause-cells : goal.returns-clause-cells
returns-clause-cells c = λ q.
    let made = put-built c.args.stamp c.args.self.now c.args.path.now c.steps-steps.result.now c.args.rows.now c.in_ok-built.built c.in_ok-node-2.node.value c.node.ensures.whole c.steps-steps.ensures.short c.steps-steps.ensures.all c.requires.some c.requires.under c.in_ok-built.ensures
    (c.in_ok-node-2.ensures ∙ ap (root_of c.args.stamp) (c.in_ok-node.ensures ∙ (λ i. grow c.args.stamp (Some (c.node-2.ensures.tree i)) (c.steps-steps.ensures.all i) (Some (c.in_ok-built-2.ensures.ok i))))) in
    ap (λ (t : Tree). cell (rows_of t) q) c.from_node.ensures ∙ made.cells q

pub returns-clause-rows : goal.returns-clause-rows
returns-clause-rows c = λ s.
    let made = put-built c.args.stamp c.args.self.now c.args.path.now c.steps-steps.result.now c.args.rows.now c.in_ok-built.built c.in_ok-node-2.node.value c.node.ensures.whole c.steps-steps.ensures.short c.steps-steps.ensures.all c.requires.some c.requires.under c.in_ok-built.ensures
    (c.in_ok-node-2.ensures ∙ ap (root_of c.args.stamp) (c.in_ok-node.ensures ∙ (λ i. grow c.args.stamp (Some (c.node-2.ensures.tree i)) (c.steps-steps.ensures.all i) (Some (c.in_ok-built-2.ensures.ok i))))) in
    ap rows_of c.from_node.ensures ∙ made.listed s

pub returns-clause-stamps : goal.returns-clause-stamps
returns-clause-stamps c =
    let made = put-built c.args.stamp c.args.self.now c.args.path.now c.steps-steps.result.now c.args.rows.now c.in_ok-built.built c.in_ok-node-2.node.value c.node.ensures.whole c.steps-steps.ensures.short c.steps-steps.ensures.all c.requires.some c.requires.under c.in_ok-built.ensures
    (c.in_ok-node-2.ensures ∙ ap (root_of c.args.stamp) (c.in_ok-node.ensures ∙ (λ i. grow c.args.stamp (Some (c.node-2.ensures.tree i)) (c.steps-steps.ensures.all i) (Some (c.in_ok-built-2.ensures.ok i))))) in
    subst (λ (t : Tree). Follows (exactly c.args.stamp) (act_touches (rows_of c.args.self.now) c.args.path.now (Put c.args.rows.now)) c.args.self.now t) (sym c.from_node.ensures) made.stamps
