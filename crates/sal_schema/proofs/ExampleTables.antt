-- The tables of the examples are tables of schemas.
use Rattle.std.proofs.Common.{refl, arith}
use Rattle.sal_restrict.specs.declared.yang_type.YangType.TheViews.{out-roll-YangType}
use Rattle.sal_schema.specs.Examples as example
use Rattle.sal_schema.specs.Table.{closest}
use Rattle.sal_schema.specs.Valid.{IsTable}
use Rattle.sal_schema.proofs.ShownTables.{shown}

pub topology-IsTable : IsTable example.topology
unfolding closest
topology-IsTable = shown example.topology (record { nodes = omega arith; types = omega arith; modules = omega arith; identities = omega arith }) refl (simp out-roll-YangType)

pub mixed-IsTable : IsTable example.mixed
unfolding closest
mixed-IsTable = shown example.mixed (record { nodes = omega arith; types = omega arith; modules = omega arith; identities = omega arith }) refl (simp out-roll-YangType)

pub messages-IsTable : IsTable example.messages
unfolding closest
messages-IsTable = shown example.messages (record { nodes = omega arith; types = omega arith; modules = omega arith; identities = omega arith }) refl (simp out-roll-YangType)
