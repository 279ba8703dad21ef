use Rattle.std.proofs.Common.{ap}
use Rattle.sal_turn.proofs.Close.{closes_as, closes_at, Closes}
use Rattle.sal_turn.proofs.turn.Turn.close.Given as given
use Rattle.sal_turn.proofs.turn.Turn.close.Goals as goal

pub unreachable-requires : goal.unreachable-requires
unreachable-requires g c =
    let o = closes_as g.V.Chronicle.entries g.V.Chronicle.client g.V.Chronicle.ground _ _ _ _ _ _ (ap (λ p. p.view) c.seat.view_is) c.seat.invariant.1 c.requires.may_split c.requires.joined c.close_with-closed.ensures.values.2 c.take-slot.ensures.value in
    c.in_default.not-Some o.0 o.1

closed : (g : given.Over) (c : goal.In-Some g) → Closes g.V.Chronicle.entries g.V.Chronicle.client g.V.Chronicle.ground c.args.seat.view c.in-Some.value
closed g c =
    let o = closes_as g.V.Chronicle.entries g.V.Chronicle.client g.V.Chronicle.ground _ _ _ _ _ _ (ap (λ p. p.view) c.seat.view_is) c.seat.invariant.1 c.requires.may_split c.requires.joined c.close_with-closed.ensures.values.2 c.take-slot.ensures.value in
    closes_at g.V.Chronicle.entries g.V.Chronicle.client g.V.Chronicle.ground c.args.seat.view c.take-slot.result c.in-Some.value o c.in-Some.is

pub returns-clause-ground : goal.returns-clause-ground
returns-clause-ground g c = (closed g c).grounded

pub returns-clause-seen : goal.returns-clause-seen
returns-clause-seen g c = (closed g c).seen

pub returns-clause-own : goal.returns-clause-own
returns-clause-own g c = (closed g c).own

pub returns-clause-joined : goal.returns-clause-joined
returns-clause-joined g c = (closed g c).joined

pub returns-clause-others : goal.returns-clause-others
returns-clause-others g c = (closed g c).others
