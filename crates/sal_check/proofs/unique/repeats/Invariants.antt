-- None of the statements so far is broken.
use Rattle.std.proofs.Common.{◌≡◌, false, Some, take}
use Rattle.std.specs.List.{list_any}
use Rattle.sal_check.specs.Nodes.{seen_in}
use Rattle.sal_rules.specs.Rules.{has_double, combinations}
use Rattle.sal_check.proofs.unique.repeats.Given as goal

abbrev pub invariant-loop-leafs : goal.invariant-loop-leafs
invariant-loop-leafs l = list_any (λ leafs. has_double (combinations l.walk.schema.now (seen_in (Some l.place.node.now.value)) l.number leafs)) (take l.leafs-index l.leafs-items) ≡ false
