-- The hub that was found has the seat's world, and its log begins with what the seat has seen.
use Rattle.std.proofs.Common.{sym, ap, ◌∙◌, subst}
use mathlib.Core.List.{IsPrefix}
use Rattle.sal_broker.specs.Seats.{SeatView, hub_with, inside, known}
use Rattle.sal_broker.specs.Tokens.{TokensStay}
use Rattle.sal_broker.proofs.sal.Sal.enter.Goals as goal

pub returns-clause-tokens : goal.returns-clause-tokens
returns-clause-tokens g c =
    let same = sym (ap inside c.in-Some.is) ∙ c.seat.view_is in
    let e = c.enter.ensures in
    let starts : IsPrefix c.args.seat.view.seen c.enter.result.found = subst (λ (v : SeatView). IsPrefix v.seen c.enter.result.found) (ap (λ p. p.view) same) e.seen in
    subst (λ (v : SeatView). TokensStay (known c.args.seat.view) (hub_with v c.enter.result.found)) (sym (e.same.1 ∙ ap (λ p. p.view) same))
    (c.tokens_stay.ensures (known c.args.seat.view) c.enter.result.found starts)
