use Rattle.sal_script_laws.proofs.Decided.{accepted}
use Rattle.sal_script_laws.proofs.laws.puts_are_taken.Goals as goal

pub returns : goal.returns
returns c = accepted
