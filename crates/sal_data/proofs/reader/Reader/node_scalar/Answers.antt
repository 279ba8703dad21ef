use Rattle.std.proofs.Common.{◌≡◌, ◌∙◌, ℕ, Option, Result, Err, ap, subst}
use Rattle.std.specs.Option.{option_map_or}
use Rattle.serde_json.specs.View.{view}
use Rattle.sal_types.specs.declared.value.Value.{Value}
use Rattle.sal_types.specs.Reading.{GivesUnless}
use Rattle.sal_schema.specs.Table.{module_of}
use Rattle.sal_json.specs.declared.fault.ScalarFault.{ScalarFault}
use Rattle.sal_json.specs.declared.fault.ScalarFault.TheVariants.{NoMemory, WrongKind}
use Rattle.sal_json.specs.Read.{scalar_of}
use Rattle.sal_data.proofs.reader.Reader.node_scalar.Goals as goal

pub returns : goal.returns
returns c =
    let table = c.args.self.now.schema.now in
    let json = view c.args.json.now in
    subst (λ (read : Result Value ScalarFault). GivesUnless NoMemory (λ (value : Value). value) c.read_scalar.result read)
    (ap (λ (o : Option ℕ). option_map_or (λ m. scalar_of table c.in-Some.ty m json) o (Err WrongKind)) c.in-Some-module_at.ensures.module_number
    ∙ ap (λ (o : Option ℕ). option_map_or (λ ty. option_map_or (λ m. scalar_of table ty m json) (module_of table c.args.node) (Err WrongKind)) o (Err WrongKind)) c.in-Some.ensures.ty)
    c.read_scalar.ensures
