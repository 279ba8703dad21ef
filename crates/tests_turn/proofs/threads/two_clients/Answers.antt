use Rattle.std.proofs.Common.{ℕ, [], ◌∷◌, ◌++◌, sym, ap, ◌∙◌, subst}
use Rattle.sal_turn.specs.declared.view.View.{View}
use Rattle.sal_turn.specs.Lists.{In}
use Rattle.sal_turn.specs.Views.{AnswersFor}
use Rattle.tests_turn.proofs.AllJoined.{two_joined}
use Rattle.tests_turn.proofs.threads.two_clients.Goals as goal

abbrev V : Type 0
V = View (ℕ × ℕ) ℕ

pub close-requires-clause-joined : goal.close-requires-clause-joined
close-requires-clause-joined g c =
    let opened = c.in_ok-turn.ensures.1 in
    let gave = c.split-other.ensures.giver.1 in
    let new = c.split-other.ensures.new.1 in
    let one = c.both_take_turns-one.ensures.first.1 in
    let two = c.both_take_turns-one.ensures.second.1 in
    subst (λ (v : V). (k : ℕ) → In k v.given → AnswersFor v k) (sym c.join-all.ensures.joined.1)
    (two_joined 1 2 c.both_take_turns-one.result.0.view c.both_take_turns-one.result.1.view
    (one.0 ∙ ap (λ (v : V). v.number) gave ∙ ap (λ (v : V). v.number) opened)
    (two.0 ∙ ap (λ (v : V). v.number) new)
    (one.2 ∙ ap (λ (v : V). v.splits) gave ∙ ap (λ (v : V). v.splits) opened)
    (one.3 ∙ ap (λ (v : V). v.given) gave ∙ ap (λ (v : V). v.given ++ 2 ∷ []) opened))
