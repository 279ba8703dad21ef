use Rattle.sal_build.proofs.SpelledBits.{bits_are_spelled}
use Rattle.sal_build.proofs.laws.bits_are_spelled.Goals as goal

pub returns : goal.returns
returns c = bits_are_spelled
