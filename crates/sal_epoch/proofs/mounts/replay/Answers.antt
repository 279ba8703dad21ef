use Rattle.std.proofs.Common.{List, refl, subst, sym}
use Rattle.sal_mount.specs.declared.call.MountCall.{MountCall}
use Rattle.sal_history.specs.declared.call.Call.{Call}
use Rattle.sal_history.specs.Services.{mount_call}
use Rattle.sal_history.specs.MountCalls.{with_call}
use Rattle.sal_epoch.specs.Mounts.{Follows}
use Rattle.sal_epoch.proofs.Mounting.{unmoved}
use Rattle.sal_epoch.proofs.mounts.replay.Goals as goal

pub returns-in-Unmount-clause-follows : goal.returns-in-Unmount-clause-follows
returns-in-Unmount-clause-follows c =
    let P : Call → Type 0 = λ call. (calls : List MountCall) → Follows calls c.args.register.now c.args.made.now.items → Follows (with_call calls (mount_call call)) c.unmount.new.register c.args.made.now.items in
    subst P (sym c.in-Unmount.is) (λ calls was. c.unmount.ensures.follows calls c.args.made.now.items was)

pub returns-in-MountAt-clause-follows : goal.returns-in-MountAt-clause-follows
returns-in-MountAt-clause-follows c =
    let P : Call → Type 0 = λ call. (calls : List MountCall) → Follows calls c.args.register.now c.args.made.now.items → Follows (with_call calls (mount_call call)) c.args.register.now c.args.made.now.items in
    subst P (sym c.in-MountAt.is) (λ calls was. unmoved was _ _ c.mount_at.ensures.answer refl)
