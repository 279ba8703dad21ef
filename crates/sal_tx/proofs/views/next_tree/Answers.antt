use Rattle.std.proofs.Common.{◌≡◌, List, subst}
use Rattle.sal_types.specs.declared.value.Step.{Step}
use Rattle.sal_types.specs.Tree.{cell}
use Rattle.sal_rows.specs.Apply.{act_setting, cell_by}
use Rattle.sal_node.specs.Tree.{Tree, IsGrove}
use Rattle.sal_tree.specs.Follows.{Follows, exactly}
use Rattle.sal_tree.specs.Rows.{rows_of}
use Rattle.sal_tree.specs.Touched.{act_touches}
use Rattle.sal_tx.proofs.Nexts.{IsSeen-more}
use Rattle.sal_tx.proofs.views.next_tree.Goals as goal

pub returns : goal.returns
returns c = λ ops seen.
    let op = c.args.op.now in
    let next = c.in_ok-next.next in
    let from = subst (λ (t : Tree). IsGrove t.kids) c.tree_of-from.ensures c.node.ensures.whole.ordered in
    let now = subst (λ (t : Tree). IsGrove t.kids) c.tree_of-tree.ensures c.node-2.ensures.whole.ordered in
    let cells = subst (λ (t : Tree). (r : List Step) → cell (rows_of next) r ≡ cell_by (act_setting op.path op.act r) (cell (rows_of t) r)) c.tree_of-tree.ensures c.in_ok-next.ensures.cells in
    let stamps = subst (λ (t : Tree). Follows (exactly c.args.stamp) (act_touches (rows_of t) op.path op.act) t next) c.tree_of-tree.ensures c.in_ok-next.ensures.stamps in
    IsSeen-more c.args.stamp ops op c.args.base.now c.args.view.now next from now c.node-3.ensures.whole.ordered cells stamps seen
