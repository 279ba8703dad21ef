-- The names so far and those of what is left are all names.
use Rattle.std.proofs.Common.{◌≡◌, ◌++◌, drop}
use Rattle.std.specs.List.{flat_map}
use Rattle.sal_schema_of_table.specs.Keys.{module_key}
use Rattle.sal_schema_of_table.proofs.names.module_keys.Given as goal

abbrev pub invariant-loop-text : goal.invariant-loop-text
invariant-loop-text l = l.list.items ++ flat_map module_key (drop l.text-index l.modules) ≡ flat_map module_key l.modules
