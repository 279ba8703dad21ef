-- The opening trees have no rows.
use Rattle.std.proofs.Common.{◌≡◌, IsTrue, List, [], sym, subst, refl}
use Rattle.sal_types.specs.declared.row.Row.{Row}
use Rattle.sal_schema.specs.declared.table.SchemaTable.{SchemaTable}
use Rattle.sal_schema.specs.Fitting.{is_closed}
use Rattle.sal_rows.specs.declared.clash.Rules.TheVariants.{One}
use Rattle.sal_hub.specs.Openings.{AreClosedDevices}
use Rattle.sal_hub.proofs.OneVersion.{alone_version}
use Rattle.tests_cases.proofs.checks.full.opened.Goals as goal

-- no rows are closed by any schema
closed : (table : SchemaTable) (rows : List Row) → rows ≡ [] → IsTrue (is_closed table rows)
closed table rows none = subst (λ (rs : List Row). IsTrue (is_closed table rs)) (sym none) refl

pub open-requires-clause-closed : goal.open-requires-clause-closed
open-requires-clause-closed c =
    let table = c.args.schema.value in
    subst AreClosedDevices (sym c.in_ok-devices.ensures.items) (record { config = closed table c.new.result c.new.ensures; oper = closed table c.new-2.result c.new-2.ensures }, tt)

pub open-requires-clause-versions : goal.open-requires-clause-versions
open-requires-clause-versions c = alone_version One _ _ c.in_ok-devices.ensures.items c.new-3.ensures.items
