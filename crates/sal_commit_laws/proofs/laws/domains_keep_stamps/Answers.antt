-- The commits of a domain were each made of the one before.
use Rattle.sal_commit_laws.proofs.Ages.{agree}
use Rattle.sal_commit_laws.proofs.laws.domains_keep_stamps.Goals as goal

pub returns : goal.returns
returns c = record { agree = agree c.args.domain.now.commits.items c.args.domain.now.following }
