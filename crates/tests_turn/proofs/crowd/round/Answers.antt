-- Each seat has a number that was not given.
use Rattle.std.proofs.Common.{◌≡◌, ℕ, [], ◌∷◌, refl, sym, ap, ◌∙◌, arith, ⊎_elim, subst}
use Rattle.sal_turn.specs.declared.view.View.{View}
use Rattle.sal_turn.specs.Lists.{In}
use Rattle.sal_turn.proofs.Lists.{in_either}
use Rattle.tests_turn.proofs.crowd.round.Goals as goal

abbrev V : Type 0
V = View (ℕ × ℕ) ℕ

pub loop-number-init : goal.loop-number-init
loop-number-init g c =
    let opened = c.in_ok-turn.ensures in
    (refl, ap (λ (v : V). v.splits) opened.1, λ k low high i. ⊎_elim (λ (e : 8 ≡ k). omega (arith, e, high)) (λ (h : ⊥). h) (subst (In k) (ap (λ (v : V). v.given) opened.1) i))

pub split-other-requires-clause-lock : goal.split-other-requires-clause-lock
split-other-requires-clause-lock g c = c.loop-number.invariant.0 ∙ c.in_ok-turn.ensures.0

pub split-other-requires-clause-may_split : goal.split-other-requires-clause-may_split
split-other-requires-clause-may_split g c = c.loop-number.invariant.1

pub split-other-requires-clause-new : goal.split-other-requires-clause-new
split-other-requires-clause-new g c = c.loop-number.invariant.2 c.loop-number.number (omega arith) (omega (arith, c.loop-number-test.true))

pub loop-number-preserved : goal.loop-number-preserved
loop-number-preserved g c =
    let n = c.loop-number.number in
    let is = c.loop-number.invariant in
    let gave = c.split-other.ensures.giver in (
      gave.0 ∙ sym c.in_ok-turn.ensures.0,
      ap (λ (v : V). v.splits) gave.1 ∙ is.1,
      λ k low high i. ⊎_elim
          (λ (old : In k c.loop-number.seat.view.given). is.2 k (omega (arith, low)) high old)
          (λ (new : In k (n ∷ [])). ⊎_elim (λ (e : n ≡ k). omega (arith, e, low)) (λ (h : ⊥). h) new)
          (in_either k c.loop-number.seat.view.given (n ∷ []) (subst (In k) (ap (λ (v : V). v.given) gave.1) i)),
    )

pub enter-held-requires : goal.enter-held-requires
enter-held-requires g c = c.loop-number.invariant.0 ∙ c.in_ok-turn.ensures.0
