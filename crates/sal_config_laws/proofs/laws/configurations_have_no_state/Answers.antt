use Rattle.sal_config_laws.proofs.Stateless.{configurations_have_no_state}
use Rattle.sal_config_laws.proofs.laws.configurations_have_no_state.Goals as goal

pub returns : goal.returns
returns c = configurations_have_no_state
