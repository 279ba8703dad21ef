use Rattle.sal_near.proofs.StateData.{state-near}
use Rattle.sal_near.proofs.laws.state_is_near.Goals as goal

pub returns : goal.returns
returns c = state-near
