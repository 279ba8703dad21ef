-- The invariants hold over the new log.
use Rattle.std.proofs.Common.{ℕ, Option, refl}
use Rattle.sal_history.specs.declared.call.Call.TheVariants.{MountAt}
use Rattle.sal_history.specs.declared.reply.Reply.TheVariants.{MountAt as Told}
use Rattle.sal_hub.proofs.Wholes.{whole_mounted}
use Rattle.sal_hub.proofs.hub.Hub.mount_at.Goals as goal

pub invariant_of-self : goal.invariant_of-self
invariant_of-self c =
    let done = c.mount_at.ensures in
    whole_mounted c.self.invariant done.service.kept c.args.client (MountAt c.args.path.now) (λ m. refl)
    c.self.inside.services.mounts (λ (at : Option ℕ). Told at) c.mount_at.result refl refl refl done.service.served done.answer
