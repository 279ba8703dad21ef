-- The cells are those of the children so far.
use Rattle.std.proofs.Common.{◌≡◌, take}
use Rattle.std.specs.List.{flat_map}
use Rattle.sal_node.specs.Shape.{seen, tree_at}
use Rattle.sal_check.specs.Uniques.{all_cells_in, ways_in}
use Rattle.sal_check.proofs.FreshCells.{pick}
use Rattle.sal_check.proofs.fresh.Earlier.fresh_cells.Given as goal

abbrev pub invariant-loop-child : goal.invariant-loop-child
invariant-loop-child l = all_cells_in l.found.items ≡ flat_map (pick (ways_in l.self.ways.now) (tree_at l.self.list)) (take l.child-index (seen l.child-items))
