use Rattle.sal_tx.proofs.Nexts.{rows-first}
use Rattle.sal_tx.proofs.writing.first_checked.Goals as goal

pub checked-requires : goal.checked-requires
checked-requires c = rows-first c.args.parts.now c.args.op.now.store c.tree_of-base.result.now c.requires c.tree_of-base.ensures c.node.ensures.whole.ordered
