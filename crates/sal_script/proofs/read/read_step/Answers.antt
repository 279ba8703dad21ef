use Rattle.sal_script.proofs.CheckedReads.{json_step}
use Rattle.sal_script.proofs.read.read_step.Goals as goal

pub returns-clause-json : goal.returns-clause-json
returns-clause-json c = rw (c.step_with.ensures, json_step) c.in_ok-step.ensures.json
