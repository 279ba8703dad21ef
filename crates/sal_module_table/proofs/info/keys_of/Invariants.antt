-- The result of the statements so far.
use Rattle.std.proofs.Common.{◌≡◌, take}
use Rattle.std.specs.List.{flat_map}
use Rattle.sal_module_table.specs.Lists.{keys_in, block_of, own_stmt}
use Rattle.sal_module_table.proofs.info.keys_of.Given as goal

abbrev pub invariant-loop-sub : goal.invariant-loop-sub
invariant-loop-sub l = l.keys.items ≡ flat_map (keys_in l.nodes.modules.now l.nodes.forest.now l.k l.branch) (take l.sub-index (block_of (own_stmt l.nodes.modules.now l.branch)))
