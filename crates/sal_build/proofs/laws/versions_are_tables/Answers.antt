use Rattle.sal_build.proofs.Extending.{versions_are_tables}
use Rattle.sal_build.proofs.laws.versions_are_tables.Goals as goal

pub returns : goal.returns
returns c = versions_are_tables
