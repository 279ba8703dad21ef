-- The schemas so far, and then those of the other devices.
use Rattle.std.proofs.Common.{◌≡◌, ◌+◌, drop, length}
use Rattle.sal_script.specs.Reading.{parts}
use Rattle.sal_prepare.specs.Each.{each_from}
use Rattle.sal_prepare.specs.Scripted.{domains_of, table_by, tables_in}
use Rattle.sal_prepare.proofs.Each.{before}
use Rattle.sal_prepare.proofs.domains.device_schemas.Given as goal

abbrev pub invariant-loop-number : goal.invariant-loop-number
invariant-loop-number l = record {
  made : before (tables_in l.schemas.items) (each_from table_by l.number (drop l.number (domains_of (parts l.script)))) ≡ each_from table_by 1 (parts l.script).devices;
  long : length l.schemas.items + 1 ≡ l.number;
}
