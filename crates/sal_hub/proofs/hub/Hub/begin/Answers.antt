-- The invariants hold over the new log.
use Rattle.std.proofs.Common.{refl}
use Rattle.sal_history.specs.declared.call.Call.TheVariants.{Begin}
use Rattle.sal_history.specs.declared.reply.Reply.TheVariants.{Begun}
use Rattle.sal_history.specs.History.{history}
use Rattle.sal_tx.specs.declared.tx.Tx.{Tx}
use Rattle.sal_hub.specs.Tokens.{begun_of}
use Rattle.sal_hub.proofs.Wholes.{begin_unchained, whole_called}
use Rattle.sal_hub.specs.Current.{known_of}
use Rattle.sal_hub.specs.HubHistory.{entry_of}
use Rattle.sal_hub.proofs.hub.Hub.begin.Goals as goal

pub invariant_of-self : goal.invariant_of-self
invariant_of-self c =
    let j = c.self.inside.journal in
    let p = c.self.inside.pipeline in
    whole_called j c.begin.new.journal p p c.self.inside.chains c.self.inside.marks c.self.inside.listeners c.self.inside.services c.self.invariant c.begin.ensures.kept (entry_of (known_of j p) c.args.client (Begin c.args.domain c.args.mode)) (λ m. refl) (λ (tx : Tx). Begun (begun_of tx).base_commit (begun_of tx).on) c.begin.result refl refl c.begin.ensures.answer
    (λ r. refl) (λ r id. refl) (begin_unchained (known_of j p).world (history (known_of j p).world j.log) c.args.domain c.args.mode) (λ r. refl)
