-- The sum is the number.
use Rattle.std.proofs.Common.{◌≡◌, ℕ, ◌+◌, ◌<◌, ◌^◌, subst}
use Rattle.std.specs.Prelude.{SomeIff}
use Rattle.sal_cluster.specs.Numbers.{number_of}
use Rattle.sal_cluster.proofs.numbers.number.Goals as goal

pub returns : goal.returns
returns c =
    let is : c.of.result + c.newest_of-newest.result ≡ number_of c.args.hub.now c.args.bases.now c.args.domain = λ i. c.of.ensures i + c.newest_of-newest.ensures i in
    subst (λ (m : ℕ). SomeIff c.checked_add.result (m < 2 ^ 64) m) is c.checked_add.ensures
