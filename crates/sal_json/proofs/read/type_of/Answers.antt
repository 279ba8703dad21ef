use Rattle.sal_json.proofs.Typed.{type_is_good}
use Rattle.sal_json.proofs.read.type_of.Goals as goal

pub returns-clause-good : goal.returns-clause-good
returns-clause-good c = type_is_good c.args.schema.now c.args.ty c.type_at.result.now c.len-nodes.ensures.table c.type_at.ensures
