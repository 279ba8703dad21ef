use Rattle.std.proofs.Common.{sym, subst}
use Rattle.sal_node.specs.Tree.{Tree, IsGrove}
use Rattle.sal_node.specs.Shape.{tree_at}
use Rattle.sal_tree.specs.Grow.{IsSound}
use Rattle.sal_tree.proofs.Laws.{grove-sorted}
use Rattle.sal_tree.proofs.growth.changed.Goals as goal

pub with_child-requires-in-Some : goal.with_child-requires-in-Some
with_child-requires-in-Some c = grove-sorted _ (subst (λ (t : Tree). IsGrove t.kids) (sym c.deref.ensures) (subst (λ o. IsSound (tree_at o)) c.in-Some.is c.requires))
