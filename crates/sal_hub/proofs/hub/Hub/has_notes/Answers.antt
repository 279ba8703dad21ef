-- The calls on notifications are those of the log.
use Rattle.std.proofs.Common.{ap, ◌∙◌}
use Rattle.sal_history.specs.declared.call.Call.TheVariants.{TakeNotes}
use Rattle.sal_hub.specs.Current.{known_of}
use Rattle.sal_hub.specs.HubHistory.{HubHistory}
use Rattle.sal_hub.specs.Waiting.{would_give}
use Rattle.sal_hub.proofs.Waiting.{notes_wait}
use Rattle.sal_hub.proofs.hub.Hub.has_notes.Goals as goal

pub returns : goal.returns
returns c =
    notes_wait (known_of c.self.inside.journal c.self.inside.pipeline) c.self.inside.services.notes c.args.client c.has_notes.result c.self.invariant.services.notes c.has_notes.ensures
    ∙ ap (λ (known : HubHistory). would_give known c.args.client TakeNotes) c.self.view_is
