-- The tables so far are those of schemas.
use Rattle.std.specs.List.{AllWithin}
use Rattle.sal_schema.specs.Valid.{IsTable}
use Rattle.sal_commit.specs.Versions.{tables_of}
use Rattle.sal_hub.proofs.devices.are_tables.Given as goal

abbrev pub invariant-loop-i : goal.invariant-loop-i
invariant-loop-i l = AllWithin IsTable (tables_of l.versions) 0 l.i
