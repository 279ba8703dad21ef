-- A node in both commits is as old as the first.
use Rattle.std.proofs.Common.{Some, ap, sym, ◌∙◌}
use Rattle.sal_tree.proofs.Commits.{under-same}
use Rattle.sal_graft.specs.Kept.{tree_in}
use Rattle.sal_commit_laws.proofs.Ages.{agree}
use Rattle.sal_commit_laws.proofs.laws.one_stamp_is_one_node.Goals as goal

pub returns-clause-node : goal.returns-clause-node
returns-clause-node c commits following = agree commits following

pub returns-clause-rows : goal.returns-clause-rows
returns-clause-rows _ commits j k c d s p n m following at_c at_d grove other a b same =
    under-same (tree_in c.trees s) (tree_in d.trees s) p grove other (b ∙ ap Some (sym (agree commits following j k c d s at_c at_d p n m a b same)) ∙ sym a)
