-- The invariants hold over the new log.
use Rattle.std.proofs.Common.{refl}
use Rattle.sal_history.specs.declared.call.Call.TheVariants.{Mount}
use Rattle.sal_history.specs.declared.reply.Reply.TheVariants.{Accepted}
use Rattle.sal_hub.proofs.Wholes.{whole_mounted}
use Rattle.sal_hub.proofs.hub.Hub.mount.Goals as goal

pub invariant_of-self : goal.invariant_of-self
invariant_of-self c =
    let done = c.mount.ensures in
    whole_mounted c.self.invariant done.service.kept c.args.client (Mount c.args.path.now c.args.device) (λ m. refl)
    c.mount.new.mounts (λ u. Accepted) c.mount.result refl refl refl done.service.served done.answer
