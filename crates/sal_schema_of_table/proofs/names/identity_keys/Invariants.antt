-- The names so far and those of what is left are all names.
use Rattle.std.proofs.Common.{◌≡◌, ◌++◌, drop}
use Rattle.std.specs.List.{flat_map}
use Rattle.sal_schema_of_table.specs.Keys.{identity_key}
use Rattle.sal_schema_of_table.proofs.names.identity_keys.Given as goal

abbrev pub invariant-loop-identity : goal.invariant-loop-identity
invariant-loop-identity l = l.list.items ++ flat_map identity_key (drop l.identity-index l.identities) ≡ flat_map identity_key l.identities
