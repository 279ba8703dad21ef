-- Each example by computation.
use Rattle.sal_stmt.specs.declared.stmt.Stmt.TheViews.{out-roll-Stmt}
use Rattle.sal_module.specs.Statements.{subs_of}
use Rattle.sal_typedefs.specs.Names.{count}
use Rattle.sal_build.specs.Readable.{places, is_shallow}
use Rattle.sal_build.proofs.laws.examples_of_trees.Goals as goal

pub returns-clause-own_places : goal.returns-clause-own_places
unfolding places is_shallow
returns-clause-own_places c = simp (subs_of, out-roll-Stmt)

pub returns-clause-one_place : goal.returns-clause-one_place
unfolding places is_shallow
returns-clause-one_place c = simp (subs_of, out-roll-Stmt)

pub returns-clause-a_level : goal.returns-clause-a_level
unfolding places is_shallow
returns-clause-a_level c = simp (subs_of, out-roll-Stmt)

pub returns-clause-no_level : goal.returns-clause-no_level
unfolding places is_shallow
returns-clause-no_level c = simp (subs_of, out-roll-Stmt)

pub returns-clause-a_tree : goal.returns-clause-a_tree
unfolding places is_shallow count
returns-clause-a_tree c = simp (subs_of, out-roll-Stmt)

pub returns-clause-no_tree : goal.returns-clause-no_tree
unfolding places is_shallow count
returns-clause-no_tree c = simp (subs_of, out-roll-Stmt)
