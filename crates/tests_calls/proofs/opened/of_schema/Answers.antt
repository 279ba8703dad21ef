-- The devices have the schema that is shared.
use Rattle.std.proofs.Common.{◌≡◌, refl, sym, subst}
use Rattle.sal_schema.specs.declared.table.SchemaTable.{SchemaTable}
use Rattle.tests_calls.specs.Ready.{AreTwo}
use Rattle.tests_calls.proofs.opened.of_schema.Goals as goal

pub over-requires : goal.over-requires
over-requires c = subst (λ (table : SchemaTable). AreTwo table c.add_both.new.devices.items) (sym c.deref.ensures) (c.if-add_both.ensures refl)
