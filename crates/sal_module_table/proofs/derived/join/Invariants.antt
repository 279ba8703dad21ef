-- The bases so far.
use Rattle.std.proofs.Common.{◌≡◌, take, get_or, []}
use Rattle.sal_module_table.specs.Orders.{rows}
use Rattle.sal_module_table.specs.Identities.{joined}
use Rattle.sal_module_table.proofs.derived.join.Given as goal

abbrev pub invariant-loop-base : goal.invariant-loop-base
invariant-loop-base l = l.gathered ≡ joined (λ b. get_or (rows l.all) b []) (take l.base-index l.bases)
