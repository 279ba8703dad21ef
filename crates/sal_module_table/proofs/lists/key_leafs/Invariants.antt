-- The leafs of the names so far.
use Rattle.std.proofs.Common.{◌≡◌, map, take}
use Rattle.sal_module_table.specs.Lists.{key_leaf}
use Rattle.sal_module_table.proofs.lists.key_leafs.Given as goal

abbrev pub invariant-loop-name : goal.invariant-loop-name
invariant-loop-name l = l.named.items ≡ map (key_leaf l.nodes.modules.now l.nodes.forest.now l.k l.branch) (take l.name-index l.names)
