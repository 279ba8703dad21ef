-- The domains so far have moved on.
use Rattle.std.proofs.Common.{◌≡◌, ℕ, ◌<◌, ◌-◌, ◌^◌}
use Rattle.std.specs.Prelude.{min}
use Rattle.sal_cluster.specs.Numbers.{base_of, number_of}
use Rattle.sal_cluster.proofs.numbers.moved_on.Given as goal

abbrev pub invariant-loop-domain : goal.invariant-loop-domain
invariant-loop-domain l = (n : ℕ) → n < l.domain → base_of l.next n ≡ min (number_of l.hub l.bases n) (2 ^ 64 - 1)
