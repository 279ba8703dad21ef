-- The number is counted from that of commit 0.
use Rattle.std.proofs.Common.{◌≡◌, ◌<◌, ◌≤◌, ◌-◌, ap, sym, ◌∙◌, subst, arith, ℕ}
use Rattle.std.specs.Prelude.{nat_eq}
use Rattle.sal_cluster.specs.Numbers.{base_of}
use Rattle.sal_cluster.proofs.Numbered.{below, counted}
use Rattle.sal_cluster.proofs.numbers.is_number.Goals as goal

pub returns-in-Some : goal.returns-in-Some
returns-in-Some c =
    let base = base_of c.args.bases.now c.args.domain in
    let low : base ≤ c.args.number = subst (λ (b : ℕ). b ≤ c.args.number) c.of.ensures c.in-Some.ensures.0 in
    (λ i. nat_eq ((c.in-Some.ensures.1 ∙ ap (λ (b : ℕ). c.args.number - b) c.of.ensures) i) (c.newest_of.ensures i)) ∙ counted c.args.number base _ low

pub returns-in-None : goal.returns-in-None
returns-in-None c =
    let base = base_of c.args.bases.now c.args.domain in
    let low : c.args.number < base = omega (arith, c.in-None.ensures, c.of.ensures) in
    sym (below c.args.number base _ low)
