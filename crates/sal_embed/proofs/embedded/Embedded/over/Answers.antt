-- No step was made.
use Rattle.sal_embed.proofs.Opened.{begun}
use Rattle.sal_embed.proofs.embedded.Embedded.over.Goals as goal

pub returns-clause-begun : goal.returns-clause-begun
returns-clause-begun c = begun _ c.requires.fresh c.new-callers.ensures.items
