use Rattle.sal_verdict.proofs.Own.{plays-are-yes, runs-are-yes}
use Rattle.sal_verdict.proofs.laws.own_reports_are_said_yes_to.Goals as goal

pub returns-clause-run : goal.returns-clause-run
returns-clause-run c = runs-are-yes c.verdicts_are_judged.ensures

pub returns-clause-sim : goal.returns-clause-sim
returns-clause-sim c = plays-are-yes c.verdicts_are_judged.ensures c.what_is_left_is_reported.ensures c.what_is_played_can_be_left.ensures
