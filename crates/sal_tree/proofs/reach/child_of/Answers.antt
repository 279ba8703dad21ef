use Rattle.std.proofs.Common.{Some, sym, subst}
use Rattle.sal_node.specs.Tree.{Tree, IsGrove}
use Rattle.sal_node.specs.Shape.{tree_at}
use Rattle.sal_tree.specs.Grow.{IsSound}
use Rattle.sal_tree.proofs.Laws.{grove-sorted, sound-kid}
use Rattle.sal_tree.proofs.reach.child_of.Goals as goal

pub child-requires : goal.child-requires
child-requires c = grove-sorted _ (subst (λ (t : Tree). IsGrove t.kids) (sym c.deref.ensures) (subst (λ o. IsSound (tree_at o)) c.in-Some.is c.requires))

pub returns-in-Some-clause-sound : goal.returns-in-Some-clause-sound
returns-in-Some-clause-sound c = rw (c.child.ensures, c.deref.ensures) (sound-kid (Some c.in-Some.node.now.value) c.args.step.now (subst (λ o. IsSound (tree_at o)) c.in-Some.is c.requires))
