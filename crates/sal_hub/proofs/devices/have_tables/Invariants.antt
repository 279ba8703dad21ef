-- The tables so far are those of schemas.
use Rattle.std.specs.List.{AllWithin}
use Rattle.sal_hub.specs.Opened.{HaveTables}
use Rattle.sal_hub.proofs.devices.have_tables.Given as goal

abbrev pub invariant-loop-i : goal.invariant-loop-i
invariant-loop-i l = AllWithin HaveTables l.devices 0 l.i
