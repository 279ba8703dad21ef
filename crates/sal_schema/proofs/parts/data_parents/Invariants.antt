-- The nodes that were gone through are done.
use Rattle.std.proofs.Common.{◌≡◌, map, take}
use Rattle.sal_schema.specs.declared.table.NodeInfo.{NodeInfo}
use Rattle.sal_schema.specs.Table.{data_node}
use Rattle.sal_schema.proofs.parts.data_parents.Given as goal

abbrev pub invariant-loop-node : goal.invariant-loop-node
invariant-loop-node l = l.list.items ≡ map (λ (node : NodeInfo). data_node l.table node.parent) (take l.node-index l.nodes)
