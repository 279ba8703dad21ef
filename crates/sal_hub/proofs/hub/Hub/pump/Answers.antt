-- The invariants hold over the new log.
use Rattle.std.proofs.Common.{refl}
use Rattle.sal_history.specs.declared.call.Call.TheVariants.{Pump}
use Rattle.sal_hub.specs.Seen.{pump_reply}
use Rattle.sal_hub.proofs.Wholes.{whole_called}
use Rattle.sal_hub.specs.Current.{known_of}
use Rattle.sal_hub.specs.HubHistory.{entry_of}
use Rattle.sal_hub.proofs.hub.Hub.pump.Goals as goal

pub invariant_of-self : goal.invariant_of-self
invariant_of-self c =
    let j = c.self.inside.journal in
    let p = c.self.inside.pipeline in
    whole_called j c.pump.new.journal p c.pump.new.pipeline c.self.inside.chains c.self.inside.marks c.self.inside.listeners c.self.inside.services c.self.invariant c.pump.ensures.kept (entry_of (known_of j p) c.args.client Pump) (λ m. refl) pump_reply c.pump.result refl refl c.pump.ensures.answer
    (λ r. refl) (λ r id. refl) (λ r id. refl) (λ r. refl)
