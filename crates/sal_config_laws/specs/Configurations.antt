-- Configurations without state data.
use Rattle.std.specs.Prelude.{◌≡◌, ℕ, not, Bool, IsTrue, List, [], Some, slice_get}
use Rattle.std.specs.List.{list_all}
use Rattle.sal_types.specs.declared.value.Store.{Store}
use Rattle.sal_types.specs.declared.value.Store.TheVariants.{Config}
use Rattle.sal_types.specs.declared.row.Row.{Row}
use Rattle.sal_rows.specs.declared.op.Op.{Op}
use Rattle.sal_rows.specs.Apply.{apply_ops}
use Rattle.sal_schema.specs.declared.table.SchemaTable.{SchemaTable}
use Rattle.sal_schema.specs.Fitting.{is_of_state}
use Rattle.sal_history.specs.declared.call.Entry.{Entry}
use Rattle.sal_history.specs.History.{history, trees_at}
use Rattle.sal_history.specs.Versions.{tables_now}
use Rattle.sal_history.specs.World.{Domain}
use Rattle.sal_history_laws.specs.Lawful.{AreLawful}
use Rattle.sal_history_laws.specs.Logs.{AreSentLawful, AreSound}

-- the row is none of a state node
abbrev pub is_config_row : SchemaTable → Row → Bool
is_config_row table row = not (is_of_state table row.path)

-- no row is one of a state node
abbrev pub is_config : SchemaTable → List Row → Bool
is_config table rows = list_all (is_config_row table) rows

-- the configuration of each domain has no state data at the opening, by version 0 of its schema
abbrev pub BeginWithoutState : List Domain → Type 0
BeginWithoutState world = (number : ℕ) (d : Domain) → slice_get world number ≡ Some d → IsTrue (is_config d.table d.opening.config)

-- Operations that are lawful over a base, which need not be closed, add no state data to a configuration without any: applied to the
-- base or to another tree.
abbrev pub WritesLeaveNoState : Type 0
WritesLeaveNoState =
    (table : SchemaTable) (base : Store → List Row) (tree : List Row) (ops : List Op) → IsTrue (is_config table tree) → AreLawful table base [] ops
    → IsTrue (is_config table (apply_ops tree Config ops))

-- So no configuration of a log has state data, at any commit.
abbrev pub ConfigurationsHaveNoState : Type 0
ConfigurationsHaveNoState =
    (world : List Domain) (log : List Entry) → AreSound world → BeginWithoutState world → AreSentLawful world (history world log) → (domain k : ℕ)
    → IsTrue (is_config (tables_now world (history world log) domain) (trees_at world (history world log) domain Config k))
