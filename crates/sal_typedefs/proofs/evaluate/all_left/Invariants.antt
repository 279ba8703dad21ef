-- The first statements, and those that are left.
use Rattle.std.proofs.Common.{◌≡◌, length, ◌++◌, map}
use Rattle.sal_typedefs.specs.Walks.{left, node_of}
use Rattle.sal_typedefs.proofs.evaluate.all_left.Given as goal

abbrev pub invariant-ways : goal.invariant-ways
invariant-ways l = map node_of l.all.items ++ left l.typedefs l.ways.items ≡ left l.typedefs l.initial.ways.items

abbrev pub decreases-ways : goal.decreases-ways
decreases-ways l = length (left l.typedefs l.ways.items)
