-- None of the statements so far is broken.
use Rattle.std.proofs.Common.{◌≡◌, false, map, take, Some}
use Rattle.std.specs.List.{list_any}
use Rattle.sal_types.specs.declared.value.Step.TheVariants.{Node}
use Rattle.sal_tree.specs.Grow.{kid, kids_in}
use Rattle.sal_rules.specs.Contexts.{way_in_entry}
use Rattle.sal_check.specs.Near.{agree_freshly}
use Rattle.sal_check.proofs.fresh.repeats_freshly.Given as goal

abbrev pub invariant-loop-leafs : goal.invariant-loop-leafs
invariant-loop-leafs l = list_any (λ leafs. agree_freshly l.near.stamps.now (map (way_in_entry l.near.walk.schema.now) leafs) (kid (Some l.before.value) (Node l.number)) (kids_in (kid (Some l.place.node.now.value) (Node l.number)))) (take l.leafs-index l.leafs-items) ≡ false
