use Rattle.sal_build.proofs.TopCalls.{calls_stand_at_the_top}
use Rattle.sal_build.proofs.laws.calls_stand_at_the_top.Goals as goal

pub returns : goal.returns
returns c = calls_stand_at_the_top
