-- The seat has seen the log that the turn left.
use Rattle.std.proofs.Common.{sym, subst}
use Rattle.sal_broker.specs.Seats.{Holding, hub_with}
use Rattle.sal_broker.specs.Turns.{OneMoreAtMost, TurnOf}
use Rattle.sal_broker.proofs.Leaving.{is_some_of, left_turn}
use Rattle.sal_broker.proofs.sal.Sal.leave.Goals as goal

pub returns-clause-turn : goal.returns-clause-turn
returns-clause-turn c =
    let inner = c.held.inside.inner in
    let v = inner.view in
    let w = c.leave.result.view in
    let is = c.held.view_is in
    let e = c.leave.ensures in
    let added = subst (λ (h : Holding). OneMoreAtMost h.view h.found h.hub) (sym is) c.requires.added in
    subst (λ (h : Holding). TurnOf h.view h.view.number h.found h.hub w) is
    (left_turn v w (hub_with v inner.found) inner.value.hub.value (is_some_of v.ground c.held.invariant.0) c.held.invariant.1 c.held.invariant.2 e.same.1 added e.seen e.own)
