-- The table of the examples is the table of a schema.
use Rattle.std.proofs.Common.{refl, arith}
use Rattle.sal_restrict.specs.declared.yang_type.YangType.TheViews.{out-roll-YangType}
use Rattle.sal_schema.specs.Table.{closest}
use Rattle.sal_schema.specs.Valid.{IsTable}
use Rattle.sal_schema.proofs.ShownTables.{shown}
use Rattle.sal_rules.specs.Depots.{depot_table}

pub depot-IsTable : IsTable depot_table
unfolding closest
depot-IsTable = shown depot_table (record { nodes = omega arith; types = omega arith; modules = omega arith; identities = omega arith }) refl (simp out-roll-YangType)
