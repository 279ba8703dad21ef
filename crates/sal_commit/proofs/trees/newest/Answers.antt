use Rattle.std.proofs.Common.{ap, sym, ◌∙◌}
use Rattle.sal_tree.specs.declared.commit.Commit.{Commit}
use Rattle.sal_commit.proofs.Applying.{newest-none}
use Rattle.sal_commit.proofs.trees.newest.Goals as goal

pub returns-clause-rows : goal.returns-clause-rows
returns-clause-rows c s =
    newest-none c.args.commits.now c.index-commits-commits.result c.in_ok-trees.trees s c.requires c.index-commits-commits.is
    (c.in_ok-trees.ensures ∙ ap (λ (x : Commit). x.trees) (sym c.index-commits-commits.is)) c.node.ensures.whole.ordered c.node-2.ensures.whole.ordered
