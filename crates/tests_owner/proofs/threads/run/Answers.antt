use Rattle.std.proofs.Common.{ℕ, [], ◌∷◌, ◌++◌, sym, ap, ◌∙◌, subst}
use Rattle.sal_turn.specs.Lists.{In}
use Rattle.sal_turn.specs.Views.{both, AnswersFor}
use Rattle.sal_owner.specs.Seats.{SeatView}
use Rattle.sal_turn.proofs.AllJoined.{all_joined}
use Rattle.tests_owner.proofs.threads.run.Goals as goal

pub close-requires-clause-joined : goal.close-requires-clause-joined
close-requires-clause-joined g c =
    let opened = c.in_ok-owners.ensures.1 in
    let watched = c.watched.ensures.1 in
    let one = c.split-one.ensures in
    let two = c.split-two.ensures in
    let up = c.is_up-up.ensures.1 in
    let came = c.move_by.ensures.1 in
    let first = c.both-one.ensures.one.1 in
    let second = c.both-one.ensures.two.1 in
    subst (λ (v : SeatView). (k : ℕ) → In k v.given → AnswersFor v k) (sym (c.join-seat-2.ensures.joined.1 ∙ ap (λ (v : SeatView). both v c.both-one.result.1.view) c.join-seat.ensures.joined.1))
    (all_joined 1 2 65535 c.is_up-up.new.seat.view c.move_by.new.seat.view c.both-one.result.1.view
    (up.0 ∙ ap (λ (v : SeatView). v.number) two.giver.1 ∙ ap (λ (v : SeatView). v.number) one.giver.1 ∙ watched.0 ∙ ap (λ (v : SeatView). v.number) opened)
    (came.0 ∙ first.0 ∙ ap (λ (v : SeatView). v.number) one.new.1)
    (second.0 ∙ ap (λ (v : SeatView). v.number) two.new.1)
    (up.2 ∙ ap (λ (v : SeatView). v.splits) two.giver.1 ∙ ap (λ (v : SeatView). v.splits) one.giver.1 ∙ watched.2 ∙ ap (λ (v : SeatView). v.splits) opened)
    (up.3 ∙ ap (λ (v : SeatView). v.given) two.giver.1 ∙ ap (λ (v : SeatView). v.given ++ 2 ∷ []) one.giver.1 ∙ ap (λ l. (l ++ 1 ∷ []) ++ 2 ∷ []) (watched.3 ∙ ap (λ (v : SeatView). v.given) opened)))
