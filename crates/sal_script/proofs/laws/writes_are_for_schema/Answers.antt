use Rattle.sal_script.proofs.ForSchema.{writes_are_for_schema}
use Rattle.sal_script.proofs.laws.writes_are_for_schema.Goals as goal

pub returns : goal.returns
returns c = writes_are_for_schema
