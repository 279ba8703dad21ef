-- The entry is the log's next, and its transaction is spent.
use Rattle.std.proofs.Common.{◌≡◌, ap, ◌∙◌, nat_eq, refl}
use Rattle.std.specs.Prelude.{◌||◌}
use Rattle.sal_history.specs.declared.call.Call.TheVariants.{Cancel}
use Rattle.sal_hub.specs.Current.{known_of}
use Rattle.sal_hub.specs.Journals.{jotted}
use Rattle.sal_hub.specs.HubHistory.{entry_of}
use Rattle.sal_hub.proofs.Settling.{cancel_kept}
use Rattle.sal_hub.proofs.Wholes.{longer_now, whole_steady}
use Rattle.sal_hub.proofs.hub.Hub.cancel.Goals as goal

pub invariant_of-self-2 : goal.invariant_of-self-2
invariant_of-self-2 c =
    let j = c.self.inside.journal in
    let p = c.self.inside.pipeline in
    let whole = c.self.invariant in
    let place = c.place_of-place.result in
    let log : c.spend.new.self.log ≡ jotted j.log c.args.client (Cancel place) = c.spend.ensures.log ∙ c.in-Ok.ensures.log in
    whole_steady j c.spend.new.self p p c.self.inside.chains c.self.inside.marks c.self.inside.listeners c.self.inside.services whole
    (cancel_kept j c.spend.new.self p whole.kept c.args.client place log (λ k. c.spend.ensures.marks k ∙ ap (λ b. nat_eq place k || b) (c.in-Ok.ensures.marks k)))
    (entry_of (known_of j p) c.args.client (Cancel place)) (λ m. refl) refl refl (longer_now j c.spend.new.self p c.self.inside.chains c.self.inside.marks c.self.inside.listeners c.self.inside.services whole c.args.client (Cancel place) log) refl (λ id. refl) (λ id. refl) refl
