use Rattle.sal_build.proofs.CountedIdentities.{identities_are_statements}
use Rattle.sal_build.proofs.laws.identities_are_statements.Goals as goal

pub returns : goal.returns
returns c = identities_are_statements
