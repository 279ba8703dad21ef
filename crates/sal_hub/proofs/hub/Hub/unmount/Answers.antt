-- The invariants hold over the new log.
use Rattle.std.proofs.Common.{refl}
use Rattle.sal_history.specs.declared.call.Call.TheVariants.{Unmount}
use Rattle.sal_history.specs.declared.reply.Reply.TheVariants.{Accepted}
use Rattle.sal_hub.proofs.Wholes.{whole_mounted}
use Rattle.sal_hub.proofs.hub.Hub.unmount.Goals as goal

pub invariant_of-self : goal.invariant_of-self
invariant_of-self c =
    let done = c.unmount.ensures in
    whole_mounted c.self.invariant done.service.kept c.args.client (Unmount c.args.domain) (λ m. refl)
    c.unmount.new.mounts (λ u. Accepted) c.unmount.result refl refl refl done.service.served done.answer
