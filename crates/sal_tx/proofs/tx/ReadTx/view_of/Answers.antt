-- A base under no operations is itself.
use Rattle.std.proofs.Common.{◌≡◌, [], subst}
use Rattle.sal_rows.specs.Apply.{apply_ops}
use Rattle.sal_node.specs.Tree.{Tree}
use Rattle.sal_tree.specs.Rows.{rows_of}
use Rattle.sal_tx.proofs.Nexts.{IsAfter-none}
use Rattle.sal_tx.proofs.tx.ReadTx.view_of.Goals as goal

pub returns-clause-rows : goal.returns-clause-rows
returns-clause-rows c =
    let tree = c.tree_of-tree.result.now in
    subst (λ (t : Tree). rows_of t ≡ apply_ops (rows_of t) c.args.store []) c.tree_of-tree.ensures (IsAfter-none 0 c.args.store tree c.node.ensures.whole.ordered).rows
