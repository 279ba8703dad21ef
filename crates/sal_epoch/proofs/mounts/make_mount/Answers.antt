-- The mount is listed, or refused.
use Rattle.std.proofs.Common.{refl}
use Rattle.sal_mount.specs.declared.call.MountCall.{MountCall}
use Rattle.sal_mount.specs.declared.call.MountCall.TheVariants.{Mount}
use Rattle.sal_mount.specs.declared.call.MountFault.{MountFault}
use Rattle.sal_mount.specs.declared.call.MountFault.TheVariants.{NoDomain, DeviceUsed, MountTaken}
use Rattle.sal_mount.specs.declared.call.MountReply.TheVariants.{Refused}
use Rattle.sal_history.proofs.MountCalls.{made_if_refused}
use Rattle.sal_epoch.proofs.Mounting.{fails_as, mounted_listed, on_ok, unmoved}
use Rattle.sal_epoch.proofs.mounts.make_mount.Goals as goal

pub returns-in-Ok-clause-follows : goal.returns-in-Ok-clause-follows
returns-in-Ok-clause-follows c = on_ok c.add.result (λ listed calls was. mounted_listed was c.args.path.now c.args.device c.add.new.list.items c.in-Ok.ensures listed) c.add.ensures

pub returns-in-Err-NoDomain-clause-follows : goal.returns-in-Err-NoDomain-clause-follows
returns-in-Err-NoDomain-clause-follows c = λ calls was.
    let here = c.in-Err-NoDomain in
    let call : MountCall = Mount c.args.path.now c.args.device in
    let fault : MountFault = NoDomain here.field-0-0 in
    unmoved was call (Refused fault) (made_if_refused c.args.register.now c.mount.new.self call fault (fails_as c.args.register.now c.mount.new.self call here.field-0 fault here.field-0-is here.ensures)) refl

pub returns-in-Err-DeviceUsed-clause-follows : goal.returns-in-Err-DeviceUsed-clause-follows
returns-in-Err-DeviceUsed-clause-follows c = λ calls was.
    let here = c.in-Err-DeviceUsed in
    let call : MountCall = Mount c.args.path.now c.args.device in
    let fault : MountFault = DeviceUsed here.field-0-0 in
    unmoved was call (Refused fault) (made_if_refused c.args.register.now c.mount.new.self call fault (fails_as c.args.register.now c.mount.new.self call here.field-0 fault here.field-0-is here.ensures)) refl

pub returns-in-Err-MountTaken-clause-follows : goal.returns-in-Err-MountTaken-clause-follows
returns-in-Err-MountTaken-clause-follows c = λ calls was.
    let here = c.in-Err-MountTaken in
    let call : MountCall = Mount c.args.path.now c.args.device in
    let fault : MountFault = MountTaken here.field-0-0 in
    unmoved was call (Refused fault) (made_if_refused c.args.register.now c.mount.new.self call fault (fails_as c.args.register.now c.mount.new.self call here.field-0 fault here.field-0-is here.ensures)) refl
