use Rattle.sal_config_laws.proofs.Stateless.{writes_leave_no_state}
use Rattle.sal_config_laws.proofs.laws.writes_leave_no_state.Goals as goal

pub returns : goal.returns
returns c = writes_leave_no_state
