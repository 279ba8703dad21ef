-- The last commit has the newest trees.
use Rattle.std.proofs.Common.{ap, sym, ◌∙◌}
use Rattle.sal_tree.specs.declared.commit.Commit.{Commit}
use Rattle.sal_graft.specs.Kept.{rows_in}
use Rattle.sal_graft.proofs.KeptLemmas.{tip-kept}
use Rattle.sal_commit.proofs.versions.newest_trees.Goals as goal

pub returns : goal.returns
returns c = λ s.
    ap (λ (x : Commit). rows_in x.trees s) (sym c.index-commits-commits.is) ∙ tip-kept c.args.commits.now c.index-commits-commits.result s c.requires c.index-commits-commits.is
