use Rattle.sal_script_laws.proofs.Counted.{counted}
use Rattle.sal_script_laws.proofs.laws.rounds_are_counted.Goals as goal

pub returns : goal.returns
returns c = counted
