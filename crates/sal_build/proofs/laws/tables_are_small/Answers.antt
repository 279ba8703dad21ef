use Rattle.sal_build.proofs.Numbers.{tables_are_small}
use Rattle.sal_build.proofs.laws.tables_are_small.Goals as goal

pub returns : goal.returns
returns c = tables_are_small
