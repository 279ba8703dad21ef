use Rattle.std.proofs.Common.{refl}
use Rattle.sal_mount.specs.declared.call.MountCall.TheVariants.{Unmount}
use Rattle.sal_mount.specs.declared.call.MountReply.TheVariants.{Accepted, Refused}
use Rattle.sal_history.proofs.MountCalls.{made_if_refused}
use Rattle.sal_epoch.proofs.Mounting.{unmoved}
use Rattle.sal_epoch.proofs.mounts.unmount.Goals as goal

pub returns-in-Ok-clause-follows : goal.returns-in-Ok-clause-follows
returns-in-Ok-clause-follows c = λ calls made was. unmoved was (Unmount c.args.domain) Accepted c.in-Ok.ensures refl

pub returns-in-Err-clause-follows : goal.returns-in-Err-clause-follows
returns-in-Err-clause-follows c = λ calls made was.
    unmoved was (Unmount c.args.domain) (Refused c.in-Err.field-0) (made_if_refused _ _ _ c.in-Err.field-0 c.in-Err.ensures) refl

pub returns-in-Err-clause-devices : goal.returns-in-Err-clause-devices
returns-in-Err-clause-devices c = (made_if_refused _ _ _ c.in-Err.field-0 c.in-Err.ensures).devices
