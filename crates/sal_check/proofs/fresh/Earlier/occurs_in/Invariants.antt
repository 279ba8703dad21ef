-- The set has the cells of none of the children so far.
use Rattle.std.proofs.Common.{◌≡◌, List, false, take}
use Rattle.std.specs.List.{flat_map, list_any}
use Rattle.sal_types.specs.declared.value.Cell.{Cell}
use Rattle.sal_node.specs.Shape.{seen, tree_at}
use Rattle.sal_check.specs.Near.{is_among, other_of}
use Rattle.sal_check.specs.Uniques.{Holds, ways_in}
use Rattle.sal_check.proofs.fresh.Earlier.occurs_in.Given as goal

abbrev pub invariant-loop-child : goal.invariant-loop-child
invariant-loop-child l = (xs : List (List Cell)) → Holds l.set xs → list_any (is_among xs) (flat_map (other_of l.self.stamps.now (ways_in l.self.ways.now) (tree_at l.self.list)) (take l.child-index (seen l.child-items))) ≡ false
