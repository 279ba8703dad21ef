use Rattle.sal_build.proofs.GoodIdentities.{identities_are_good}
use Rattle.sal_build.proofs.laws.identities_are_good.Goals as goal

pub returns : goal.returns
returns c = identities_are_good
