-- The last commit has the newest trees.
use Rattle.sal_graft.proofs.KeptLemmas.{tip-kept}
use Rattle.sal_hub.proofs.start.last_commit.Goals as goal

pub returns : goal.returns
returns c = λ s. tip-kept c.args.commits.now c.index-commits-commits.result s c.requires c.index-commits-commits.is
