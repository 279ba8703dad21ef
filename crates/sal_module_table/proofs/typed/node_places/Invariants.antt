-- The values of the nodes so far.
use Rattle.std.proofs.Common.{◌≡◌, map, take}
use Rattle.sal_module_table.specs.Typed.{place_of_node}
use Rattle.sal_module_table.proofs.typed.node_places.Given as goal

abbrev pub invariant-loop-branch : goal.invariant-loop-branch
invariant-loop-branch l = l.places.items ≡ map place_of_node (take l.branch-index l.forest)
