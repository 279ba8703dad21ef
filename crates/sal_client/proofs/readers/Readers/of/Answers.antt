-- No version of all is malformed, or the first malformed one counts: those of the controller's own domain come first.
use Rattle.std.proofs.Common.{◌≡◌, ℕ, ◌<◌, ◌≤◌, false, List, length, sym, subst, arith}
use Rattle.std.proofs.lemmas.List.{length-map}
use Rattle.std.specs.declared.alloc.Global.{Global}
use Rattle.std.specs.declared.sync.Arc.{Arc}
use Rattle.std.specs.List.{list_any}
use Rattle.sal_schema.specs.declared.table.SchemaTable.{SchemaTable}
use Rattle.sal_client.specs.declared.readers.ReadersFault.TheVariants.{Pattern}
use Rattle.sal_client.specs.Lists.{versions_by}
use Rattle.sal_client.specs.Malformed.{is_malformed, shared_tables, IsFirstMalformed, IsMalformedAt}
use Rattle.sal_client.proofs.Compiled.{device_malformed, malformed_within, none_malformed}
use Rattle.sal_client.proofs.readers.Readers.of.Goals as goal

pub returns-in-Ok-readers_of-clause-formed : goal.returns-in-Ok-readers_of-clause-formed
returns-in-Ok-readers_of-clause-formed c =
    none_malformed c.in-Ok.list.items c.in-Ok-readers_of.list.items c.in-Ok.ensures.formed c.in-Ok-readers_of.ensures.formed

pub device_number-requires : goal.device_number-requires
device_number-requires c =
    let devices = c.args.devices.now in
    let first = subst (IsFirstMalformed (shared_tables devices)) c.in-Err-Pattern-readers_of.field-0-is c.in-Err-Pattern-readers_of.ensures.refused in
    let within = malformed_within (shared_tables devices) c.in-Err-Pattern-readers_of.index first.0 in
    let same = length-map devices (λ (s : Arc SchemaTable Global). s.value) in
    let few = c.requires.few in
    omega (arith, within, same, few)

pub returns-in-Err-Pattern-readers_of-clause-refused : goal.returns-in-Err-Pattern-readers_of-clause-refused
returns-in-Err-Pattern-readers_of-clause-refused c =
    let own = shared_tables c.args.own.now in
    let devices = shared_tables c.args.devices.now in
    let none : list_any is_malformed own ≡ false = subst (λ (ts : List SchemaTable). list_any is_malformed ts ≡ false) c.in-Ok.ensures.tables c.in-Ok.ensures.formed in
    let first = subst (IsFirstMalformed devices) c.in-Err-Pattern-readers_of.field-0-is c.in-Err-Pattern-readers_of.ensures.refused in
    subst (λ (k : ℕ). IsMalformedAt (versions_by own devices) (Pattern k 0)) (sym c.device_number.ensures) (device_malformed own devices c.in-Err-Pattern-readers_of.index none first)
