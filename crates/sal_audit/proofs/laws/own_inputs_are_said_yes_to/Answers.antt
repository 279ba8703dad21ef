use Rattle.sal_audit.proofs.Own.{inputs-are-yes}
use Rattle.sal_audit.proofs.laws.own_inputs_are_said_yes_to.Goals as goal

pub returns : goal.returns
returns c = inputs-are-yes c.own_reports_are_said_yes_to.ensures.run
