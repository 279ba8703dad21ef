-- The seat is the one inside.
use Rattle.std.proofs.Common.{◌≡◌, ℕ, List, [], sym, ap, ◌∙◌, subst}
use Rattle.sal_history.specs.World.{Domain}
use Rattle.sal_history.specs.declared.call.Entry.{Entry}
use Rattle.sal_turn.specs.Entries.{entries_by}
use Rattle.sal_turn.specs.Lists.{In}
use Rattle.sal_turn.specs.Seats.{Place}
use Rattle.sal_turn.specs.Views.{AnswersFor}
use Rattle.sal_hub.specs.HubHistory.{HubHistory}
use Rattle.sal_broker.specs.Seats.{client_of, inside}
use Rattle.sal_broker.proofs.sal.Sal.close.Goals as goal

abbrev P : Type 0
P = Place Entry (List Domain)

pub close-hub-requires-clause-joined : goal.close-hub-requires-clause-joined
close-hub-requires-clause-joined c =
    let same = sym (ap inside c.in-Some.is) ∙ c.seat.view_is in
    subst (λ (p : P). (k : ℕ) → In k p.view.given → AnswersFor p.view k) (sym same) c.requires.joined

pub returns-clause-joined : goal.returns-clause-joined
returns-clause-joined c =
    let same = sym (ap inside c.in-Some.is) ∙ c.seat.view_is in
    let boxed = subst (λ (p : P). (k : ℕ) (es : List Entry) → In (k, es) p.view.joined → entries_by client_of k c.close-hub.result.hub.value.log ≡ es) same c.close-hub.ensures.joined in
    subst (λ (h : HubHistory). (k : ℕ) (es : List Entry) → In (k, es) c.args.seat.view.joined → entries_by client_of k h.log ≡ es) (sym c.into_inner.ensures) boxed

pub returns-clause-others : goal.returns-clause-others
returns-clause-others c =
    let same = sym (ap inside c.in-Some.is) ∙ c.seat.view_is in
    let boxed = subst (λ (p : P). (k : ℕ) → ¬ AnswersFor p.view k → entries_by client_of k c.close-hub.result.hub.value.log ≡ []) same c.close-hub.ensures.others in
    subst (λ (h : HubHistory). (k : ℕ) → ¬ AnswersFor c.args.seat.view k → entries_by client_of k h.log ≡ []) (sym c.into_inner.ensures) boxed
