-- Those with a cell among the children so far are counted.
use Rattle.std.proofs.Common.{◌≡◌, ◌≤◌, length, take}
use Rattle.sal_node.specs.Shape.{seen}
use Rattle.sal_check.specs.Nodes.{own_steps}
use Rattle.sal_check.proofs.entries.count.Given as goal

abbrev pub invariant-loop-child : goal.invariant-loop-child
invariant-loop-child l = record {
  count : l.count ≡ length (own_steps (take l.child-index (seen l.child-items)));
  few : l.count ≤ l.child-index;
}
