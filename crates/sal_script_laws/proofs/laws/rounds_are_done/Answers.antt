use Rattle.sal_script_laws.proofs.Decided.{decided}
use Rattle.sal_script_laws.proofs.laws.rounds_are_done.Goals as goal

pub returns : goal.returns
returns c = decided
