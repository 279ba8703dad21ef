use Rattle.sal_build.proofs.Numbers.{numbers_are_there}
use Rattle.sal_build.proofs.laws.numbers_are_there.Goals as goal

pub returns : goal.returns
returns c = numbers_are_there
