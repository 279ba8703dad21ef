-- A malformed pattern refuses the schema.
use Rattle.std.proofs.Common.{subst}
use Rattle.sal_json.specs.Patterns.{has_malformed, IsRefusal}
use Rattle.sal_client.proofs.Compiled.{any_named}
use Rattle.sal_prepare.proofs.OwnSchemas.{unformed_by}
use Rattle.sal_prepare.proofs.own_schema.formed.Goals as goal

pub returns-in-Err-Refused-clause-refused : goal.returns-in-Err-Refused-clause-refused
returns-in-Err-Refused-clause-refused c =
    let refused = subst (IsRefusal c.args.schema.now) c.in-Err-Refused.field-0-is c.in-Err-Refused.ensures.refused in
    unformed_by c.args.version c.args.schema.now c.bad_pattern.result (any_named has_malformed c.args.schema.now.types c.in-Err-Refused.field-0-0 refused) c.bad_pattern.ensures
