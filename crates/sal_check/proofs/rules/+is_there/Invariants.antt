-- None of the nodes so far is there.
use Rattle.std.proofs.Common.{◌≡◌, ◌-◌, false, take}
use Rattle.std.specs.List.{list_any}
use Rattle.sal_node.specs.Shape.{tree_at}
use Rattle.sal_check.specs.Nodes.{seen_in}
use Rattle.sal_rules.specs.Rules.{is_there}
use Rattle.sal_check.proofs.rules.+is_there.Given as goal

abbrev pub decreases-is_there : goal.decreases-is_there
decreases-is_there l = l.deep

abbrev pub invariant-loop-child : goal.invariant-loop-child
invariant-loop-child l = list_any (is_there l.schema (seen_in (tree_at l.node)) (l.deep - 1)) (take l.child-index l.child-items) ≡ false
