-- A malformed pattern refuses the schema.
use Rattle.std.proofs.Common.{refl, subst}
use Rattle.sal_json.specs.Patterns.{has_malformed, IsRefusal}
use Rattle.sal_client.proofs.Compiled.{any_named}
use Rattle.sal_client.proofs.readers.compiled.Goals as goal

pub returns-in-Err-Refused-clause-refused : goal.returns-in-Err-Refused-clause-refused
returns-in-Err-Refused-clause-refused c =
    let refused = subst (IsRefusal c.args.schema.value) c.in-Err-Refused.field-0-is c.in-Err-Refused.ensures.refused in
    (refl, any_named has_malformed c.args.schema.value.types c.in-Err-Refused.field-0-0 refused)
