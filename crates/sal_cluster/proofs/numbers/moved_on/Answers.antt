-- One more has moved on.
use Rattle.std.proofs.Common.{◌≡◌, ℕ, ◌+◌, ◌-◌, ◌^◌, ap, ◌∙◌, arith}
use Rattle.std.specs.Prelude.{min}
use Rattle.sal_cluster.specs.Numbers.{number_of}
use Rattle.sal_cluster.proofs.Numbered.{set_next}
use Rattle.sal_cluster.proofs.numbers.moved_on.Goals as goal

pub newest_of-requires : goal.newest_of-requires
newest_of-requires c = omega (arith, c.loop-domain-test.true, c.domains.ensures.all)

pub set-requires : goal.set-requires
set-requires c = omega (arith, c.loop-domain-test.true, c.domains.ensures.all, c.requires)

pub loop-domain-preserved : goal.loop-domain-preserved
loop-domain-preserved c =
    let l = c.loop-domain in
    let is = c.counted.ensures ∙ ap (λ (m : ℕ). min m (2 ^ 64 - 1)) (λ i. c.of.ensures i + c.newest_of.ensures i) in
    set_next l.next c.set.new.self l.domain c.counted.result (λ n. min (number_of c.args.hub.now c.args.bases.now n) (2 ^ 64 - 1)) c.set.ensures.here c.set.ensures.others is l.invariant

pub returns : goal.returns
returns c = λ n inside. c.loop-domain.invariant n (omega (arith, inside, c.loop-domain-test.false, c.domains.ensures.all))
