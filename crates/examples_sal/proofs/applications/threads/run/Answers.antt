use Rattle.std.proofs.Common.{ℕ, [], ◌∷◌, ◌++◌, sym, ap, ◌∙◌, subst}
use Rattle.sal.specs.Seats.{SeatView}
use Rattle.sal.specs.Lists.{In}
use Rattle.sal.specs.Views.{both, AnswersFor}
use Rattle.sal.proofs.AllJoined.{all_joined}
use Rattle.examples_sal.proofs.applications.threads.run.Goals as goal

pub close-hub-requires-clause-joined : goal.close-hub-requires-clause-joined
close-hub-requires-clause-joined g c =
    let opened = c.in_ok-listener.ensures.same.1 in
    let one = c.split-first.ensures in
    let two = c.split-second.ensures in
    let first = c.in_ok-first.ensures.first.1 in
    let second = c.in_ok-first.ensures.second.1 in
    let took = c.in_ok-told.ensures.same.1 in
    subst (λ (v : SeatView). (k : ℕ) → In k v.given → AnswersFor v k)
    (sym (c.join-all.ensures.joined.1 ∙ ap (λ (v : SeatView). both v c.in_ok-first.second.view) c.join-joined.ensures.joined.1))
    (all_joined 1 2 65535 c.take.new.seat.view c.in_ok-first.first.view c.in_ok-first.second.view
    (took.0 ∙ ap (λ (v : SeatView). v.number) two.giver.1 ∙ ap (λ (v : SeatView). v.number) one.giver.1 ∙ opened.0 ∙ c.requires.opening.number)
    (first.0 ∙ ap (λ (v : SeatView). v.number) one.new.1)
    (second.0 ∙ ap (λ (v : SeatView). v.number) two.new.1)
    (took.2 ∙ ap (λ (v : SeatView). v.splits) two.giver.1 ∙ ap (λ (v : SeatView). v.splits) one.giver.1 ∙ opened.2 ∙ c.requires.opening.may_split)
    (took.3 ∙ ap (λ (v : SeatView). v.given) two.giver.1 ∙ ap (λ (v : SeatView). v.given ++ 2 ∷ []) one.giver.1 ∙ ap (λ l. (l ++ 1 ∷ []) ++ 2 ∷ []) (opened.3 ∙ c.requires.opening.given)))
