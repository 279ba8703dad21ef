use Rattle.std.proofs.Common.{refl}
use Rattle.sal_mount.specs.declared.call.MountCall.TheVariants.{Mount}
use Rattle.sal_mount.specs.declared.call.MountReply.TheVariants.{Refused}
use Rattle.sal_report.proofs.Replayed.{mounted_marked, unmoved}
use Rattle.sal_report.proofs.mounted.mount.Goals as goal

pub returns-in-Ok-clause-follows : goal.returns-in-Ok-clause-follows
returns-in-Ok-clause-follows c = λ calls was. mounted_marked was c.args.path.now c.args.device c.mark.new.marks c.in-Ok.ensures c.mark.ensures.long c.mark.ensures.each
