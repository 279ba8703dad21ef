use Rattle.sal_build.proofs.KeyedLists.{keys_are_there}
use Rattle.sal_build.proofs.laws.keys_are_there.Goals as goal

pub returns : goal.returns
returns c = keys_are_there
