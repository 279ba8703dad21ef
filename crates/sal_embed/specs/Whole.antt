-- The invariant of an embedded broker.
use Rattle.std.specs.Prelude.{◌≡◌, ◌≤◌, List, length}
use Rattle.sal_schema.specs.declared.table.SchemaTable.{SchemaTable}
use Rattle.sal_script.specs.Tables.{Versions, tables_of, versions_of}
use Rattle.sal_prepare.specs.Scripted.{tables_in}
use Rattle.sal_embed.specs.declared.clients.Clients.{Clients}
use Rattle.sal_embed.specs.Broker.{AreCallers}

-- Its schemas and its readers are those of the domains of its hub, and each client's run is sound for the log.
pub record IsWhole (it : Clients) (schemas : List SchemaTable) (readers : List Versions) : Type 0 where
  pub tables : schemas ≡ tables_of it.hub.world
  pub few : length schemas ≤ 64
  pub versions : readers ≡ versions_of it.hub.world
  pub callers : AreCallers it.hub it.callers.items
  pub placed : length it.callers.items ≤ 65536
