use Rattle.sal_verdict.proofs.Own.{verdicts-are-one}
use Rattle.sal_verdict.proofs.laws.verdicts_are_one.Goals as goal

pub returns : goal.returns
returns c = verdicts-are-one c.verdicts_are_judged.ensures
