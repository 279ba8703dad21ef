-- The value that the call was given, and the one that it left.
use Rattle.std.proofs.Common.{rules, ◌≡◌, ℕ, MutBor, refl, sym, ap, subst}
use Rattle.sal_turn.specs.Tells.{FitsSeat}
use Rattle.sal_turn.specs.Turns.{Does}
use Rattle.sal_turn.proofs.Made.{added, fits, grounded, turned}
use Rattle.sal_turn.proofs.turn.Turn.make_turn.Goals as goal

pub call-answer-requires : goal.call-answer-requires
call-answer-requires g c =
    let fits = fits g.V.Chronicle.entries g.V.Chronicle.client g.V.Chronicle.ground _ _ _ _ (ap (λ p. p.view) c.seat.view_is) c.begin-value.ensures.begun in
    let takes : (y : MutBor g.row.V.Denot) → y.now ≡ c.begin-value.result → g.F.FnOnce.pre c.args.call (y, (c.number-client.result, tt)) =
    λ y is. subst (λ (n : ℕ). g.F.FnOnce.pre c.args.call (y, (n, tt))) (sym c.number-client.ensures) (c.requires.takes y (subst (λ (x : g.row.V.Denot). FitsSeat g.V.Chronicle.entries g.V.Chronicle.client g.V.Chronicle.ground x c.args.seat.now.view) (sym is) fits)) in
    search (takes, rules)

pub end-requires-clause-ground : goal.end-requires-clause-ground
end-requires-clause-ground g c =
    let does : Does g.V.Chronicle.entries g.V.Chronicle.client g.V.Chronicle.ground g.F.FnOnce c.args.call c.args.seat.now.view c.begin-value.result c.call-answer.result c.call-answer.new.arg2 =
    record { client = _; number = search rules; small = search rules; before = _; shows = search rules; after = _; leaves = refl; met = c.call-answer.ensures } in
    grounded g.V.Chronicle.entries g.V.Chronicle.client g.V.Chronicle.ground _ _ _ _ (ap (λ p. p.view) c.seat.view_is) c.begin-value.ensures.begun _ _ _ _ c.requires.adds does

pub end-requires-clause-entries : goal.end-requires-clause-entries
end-requires-clause-entries g c =
    let does : Does g.V.Chronicle.entries g.V.Chronicle.client g.V.Chronicle.ground g.F.FnOnce c.args.call c.args.seat.now.view c.begin-value.result c.call-answer.result c.call-answer.new.arg2 =
    record { client = _; number = search rules; small = search rules; before = _; shows = search rules; after = _; leaves = refl; met = c.call-answer.ensures } in
    added g.V.Chronicle.entries g.V.Chronicle.client g.V.Chronicle.ground _ _ _ _ (ap (λ p. p.view) c.seat.view_is) c.begin-value.ensures.begun _ _ _ _ c.requires.adds does

pub returns-clause-turn : goal.returns-clause-turn
returns-clause-turn g c =
    let does : Does g.V.Chronicle.entries g.V.Chronicle.client g.V.Chronicle.ground g.F.FnOnce c.args.call c.args.seat.now.view c.begin-value.result c.call-answer.result c.call-answer.new.arg2 =
    record { client = _; number = search rules; small = search rules; before = _; shows = search rules; after = _; leaves = refl; met = c.call-answer.ensures } in
    turned g.V.Chronicle.entries g.V.Chronicle.client g.V.Chronicle.ground _ _ _ _ (ap (λ p. p.view) c.seat.view_is) c.begin-value.ensures.begun _ _ _ _ c.requires.adds does _ c.end.ensures.passed
