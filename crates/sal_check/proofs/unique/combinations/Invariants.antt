-- Those of the children so far.
use Rattle.std.proofs.Common.{◌≡◌, take}
use Rattle.sal_node.specs.Shape.{seen}
use Rattle.sal_check.specs.Uniques.{all_cells_in, ways_in, all_combinations}
use Rattle.sal_check.proofs.unique.combinations.Given as goal

abbrev pub invariant-loop-child : goal.invariant-loop-child
invariant-loop-child l = all_cells_in l.found.items ≡ all_combinations (ways_in l.ways) (take l.child-index (seen l.child-items))
