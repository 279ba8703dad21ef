-- The names so far and those of what is left are all names.
use Rattle.std.proofs.Common.{◌≡◌, ◌++◌, drop}
use Rattle.std.specs.List.{flat_map}
use Rattle.sal_schema_of_table.specs.Keys.{kind_key}
use Rattle.sal_schema_of_table.proofs.names.kind_keys.Given as goal

abbrev pub invariant-loop-node : goal.invariant-loop-node
invariant-loop-node l = l.list.items ++ flat_map (kind_key l.kind) (drop l.node-index l.nodes) ≡ flat_map (kind_key l.kind) l.nodes
