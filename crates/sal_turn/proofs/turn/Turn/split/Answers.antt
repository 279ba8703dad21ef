use Rattle.std.proofs.Common.{rules, ◌≡◌, ℕ, List, ◌<◌, ◌^◌, sym, ap, ◌∙◌, subst}
use Rattle.sal_turn.specs.Lists.{In}
use Rattle.sal_turn.proofs.Split.{tells, splits}
use Rattle.sal_turn.proofs.turn.Turn.split.Goals as goal

pub compare_exchange-requires : goal.compare_exchange-requires
compare_exchange-requires g c = (search rules, search rules, tells g.V.Chronicle.entries g.V.Chronicle.client g.V.Chronicle.ground _ _ _ _ c.seat.invariant.1)

pub split_seat-token-requires : goal.split_seat-token-requires
split_seat-token-requires g c =
    let e = c.compare_exchange.ensures.2 in
    let is = c.seat.view_is in
    let given : c.compare_exchange.new.seat.me.0.given ≡ c.args.seat.now.view.given = ap (λ m. m.0.given) e ∙ ap (λ p. p.view.given) is in (
      search rules,
      search rules,
      splits g.V.Chronicle.entries g.V.Chronicle.client g.V.Chronicle.ground _ _ _ (ap (λ m. m.0.stage) e) (ap (λ m. m.0.splits) e ∙ ap (λ p. p.view.splits) is ∙ c.requires.may_split)
          (λ i. c.requires.new (subst (λ (z : ℕ × List ℕ). In z.0 z.1) (λ k. (c.from-named.ensures k, given k)) i))
          (subst (λ n. n < 2 ^ 32) (sym c.from-named.ensures) c.ranges.number.fits),
    )
