-- The law is a lemma.
use Rattle.sal_embed.proofs.Opened as opened
use Rattle.sal_embed.proofs.laws.worlds_are_of_modules.Goals as goal

pub returns : goal.returns
returns c = opened.worlds_are_of_modules
