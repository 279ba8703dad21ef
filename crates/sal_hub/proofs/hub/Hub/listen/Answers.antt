-- The invariants hold over the new log.
use Rattle.std.proofs.Common.{refl}
use Rattle.sal_history.specs.declared.call.Call.TheVariants.{Listen}
use Rattle.sal_hub.specs.Listeners.{listener_reply}
use Rattle.sal_hub.proofs.Wholes.{whole_heard}
use Rattle.sal_hub.proofs.hub.Hub.listen.Goals as goal

pub invariant_of-self : goal.invariant_of-self
invariant_of-self c =
    let done = c.listen.ensures in
    whole_heard c.self.invariant done.kept c.args.client (Listen c.args.domain c.args.store c.args.path.now) (λ m. refl)
    c.listen.new.self (listener_reply c.args.domain c.args.path.now) c.listen.result refl done.listeners done.answer (λ r. refl) (λ r id. refl) (λ r id. refl) (λ r. refl)
