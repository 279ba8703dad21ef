use Rattle.std.proofs.Common.{rules, [], ◌∷◌, Some, refl, sym, ap, ◌∙◌}
use Rattle.atomic_table.specs.Table.{rest}
use Rattle.sal_turn.specs.Views.{at_stage}
use Rattle.sal_turn.specs.declared.view.Stage.TheVariants.{Idle}
use Rattle.sal_turn.proofs.Draw.{draws}
use Rattle.sal_turn.proofs.Enter.{hits, misses, lifts, restaging, same_out}
use Rattle.sal_turn.proofs.Look.{looks}
use Rattle.sal_turn.proofs.turn.Turn.begin.Goals as goal

pub fetch_add-ticket-requires : goal.fetch_add-ticket-requires
fetch_add-ticket-requires g c = (search rules, search rules, draws g.V.Chronicle.entries g.V.Chronicle.client g.V.Chronicle.ground _ _ _ c.requires.idle)

pub loop-init : goal.loop-init
loop-init g c = let d = c.fetch_add-ticket.ensures.2 in (refl, ap (λ m. m.1) d.2 ∙ c.requires.none_out, refl, (d.0, ap (λ m. m.0.stage) d.2, d.1))

pub load-requires : goal.load-requires
load-requires g c = let i = c.loop.invariant in (search rules, search rules, looks g.V.Chronicle.entries g.V.Chronicle.client g.V.Chronicle.ground _ _ _ i.3.0 i.3.1)

pub exchange-requires : goal.exchange-requires
exchange-requires g c =
    let i = c.loop.invariant in
    let h = hits g.V.Chronicle.entries g.V.Chronicle.client g.V.Chronicle.ground 0 i.3.0 _ _ _ _ i.1 i.3.1 i.3.2 c.if-load-ticket.true c.load.ensures.2 in
    (search rules, (Some h.0, ap (λ m. m.1) h.1 ∙ ap (λ m. (0, Some h.0) ∷ rest m.1) (sym h.1)))

pub unreachable-requires : goal.unreachable-requires
unreachable-requires g c =
    let i = c.loop.invariant in
    let h = hits g.V.Chronicle.entries g.V.Chronicle.client g.V.Chronicle.ground 0 i.3.0 _ _ _ _ i.1 i.3.1 i.3.2 c.if-load-ticket.true c.load.ensures.2 in
    c.in_default.not-Some h.0 (sym (same_out (Some h.0) c.exchange.result [] (rest c.load.new.seat.me.1) (sym (ap (λ m. m.1) h.1) ∙ c.exchange.ensures.2)))

pub returns-then-load-ticket-clause-begun : goal.returns-then-load-ticket-clause-begun
returns-then-load-ticket-clause-begun g c =
    let i = c.loop.invariant in
    let d = c.fetch_add-ticket.ensures.2 in
    let base = i.2 ∙ ap (λ m. at_stage Idle m.0) d.2 ∙ restaging g.V.Chronicle.entries g.V.Chronicle.client g.V.Chronicle.ground Idle c.args.token.now.me.0 c.requires.idle in
    let e = c.exchange.ensures in
    lifts g.V.Chronicle.entries g.V.Chronicle.client g.V.Chronicle.ground 0 i.3.0 c.load.result c.fetch_add-ticket.result c.args.token.now.me.0 c.loop.token.me c.load.new.seat.me c.exchange.new.seat.me c.exchange.result c.in-Some-exchange.value
    i.1 base i.3.1 i.3.2 c.if-load-ticket.true c.load.ensures.2 e.2 e.3 c.in-Some-exchange.is

pub loop-preserved : goal.loop-preserved
loop-preserved g c =
    let i = c.loop.invariant in
    let m = misses g.V.Chronicle.entries g.V.Chronicle.client g.V.Chronicle.ground 0 i.3.0 _ _ _ _ i.3.1 i.3.2 c.if-load-ticket.false c.load.ensures.2 in
    (search rules, ap (λ m. m.1) m ∙ i.1, ap (λ m. at_stage Idle m.0) m ∙ i.2, (i.3.0, ap (λ m. m.0.stage) m ∙ i.3.1, i.3.2))
