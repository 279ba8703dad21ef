-- A version is left.
use Rattle.std.proofs.Common.{◌<◌, List, length, sym, subst}
use Rattle.sal_schema.specs.declared.table.SchemaTable.{SchemaTable}
use Rattle.sal_client.proofs.FromVersion.{some-left}
use Rattle.sal_client.proofs.readers.Readers.begin_with.Goals as goal

pub invariant_of-self : goal.invariant_of-self
invariant_of-self c = subst (λ (ts : List SchemaTable). 0 < length ts) (sym c.drop_versions.ensures) (some-left c.self.inside.own.items c.args.version c.self.invariant)
