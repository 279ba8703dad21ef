-- The bases so far.
use Rattle.std.proofs.Common.{◌≡◌, ◌-◌, take}
use Rattle.sal_grouping.specs.Indexes.{lists}
use Rattle.sal_module_table.specs.Identities.{joined, derived}
use Rattle.sal_module_table.proofs.derived.+derived_in.Given as goal

abbrev pub invariant-loop-base : goal.invariant-loop-base
invariant-loop-base l = l.gathered ≡ joined (derived (l.steps - 1) (lists l.edges)) (take l.base-index l.base-items)

abbrev pub decreases-derived_in : goal.decreases-derived_in
decreases-derived_in l = l.steps
