use Rattle.std.proofs.Common.{ℕ, [], ◌∷◌, ◌++◌, sym, ap, ◌∙◌, subst}
use Rattle.sal_turn.specs.declared.view.View.{View}
use Rattle.sal_turn.specs.Lists.{In}
use Rattle.sal_turn.specs.Views.{both, AnswersFor}
use Rattle.tests_turn.proofs.AllJoined.{three_joined}
use Rattle.tests_turn.proofs.seats.three_seats.Goals as goal

abbrev V : Type 0
V = View (ℕ × ℕ) ℕ

pub close-requires-clause-joined : goal.close-requires-clause-joined
close-requires-clause-joined g c =
    let opened = c.in_ok-turn.ensures.1 in
    let one = c.split-first.ensures in
    let two = c.split-second.ensures in
    let first = c.one_turn-first.ensures.1 in
    let second = c.one_turn-second.ensures.1 in
    let again = c.one_turn-second-2.ensures.1 in
    let seat = c.one_turn-seat.ensures.1 in
    subst (λ (v : V). (k : ℕ) → In k v.given → AnswersFor v k) (sym (c.join-all.ensures.joined.1 ∙ ap (λ (v : V). both v c.one_turn-seat.result.view) c.join-both.ensures.joined.1))
    (three_joined 1 2 9 c.one_turn-first.result.view c.one_turn-second-2.result.view c.one_turn-seat.result.view
    (first.0 ∙ ap (λ (v : V). v.number) one.new.1)
    (again.0 ∙ second.0 ∙ ap (λ (v : V). v.number) two.new.1)
    (seat.0 ∙ ap (λ (v : V). v.number) two.giver.1 ∙ ap (λ (v : V). v.number) one.giver.1 ∙ ap (λ (v : V). v.number) opened)
    (first.2 ∙ ap (λ (v : V). v.splits) one.new.1)
    (again.2 ∙ second.2 ∙ ap (λ (v : V). v.splits) two.new.1)
    (seat.3 ∙ ap (λ (v : V). v.given) two.giver.1 ∙ ap (λ (v : V). v.given ++ 2 ∷ []) one.giver.1 ∙ ap (λ (v : V). (v.given ++ 1 ∷ []) ++ 2 ∷ []) opened))
