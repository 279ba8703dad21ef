-- The text is that of the reply.
use Rattle.sal_cluster.proofs.Looking.{looked}
use Rattle.sal_cluster.proofs.look.look_in_tree.Goals as goal

pub returns-in-Ok-tree_reply : goal.returns-in-Ok-tree_reply
returns-in-Ok-tree_reply c = looked _ _ _ _ _ _ _ _ c.in-Ok.ensures.cases.0 c.in-Ok-tree_reply.ensures c.told.ensures
