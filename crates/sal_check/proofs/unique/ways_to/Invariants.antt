-- Those of the leafs so far.
use Rattle.std.proofs.Common.{◌≡◌, take, map}
use Rattle.sal_rules.specs.Contexts.{way_in_entry}
use Rattle.sal_check.specs.Uniques.{ways_in}
use Rattle.sal_check.proofs.unique.ways_to.Given as goal

abbrev pub invariant-loop-leaf : goal.invariant-loop-leaf
invariant-loop-leaf l = ways_in l.ways.items ≡ map (way_in_entry l.schema) (take l.leaf-index l.leafs)
