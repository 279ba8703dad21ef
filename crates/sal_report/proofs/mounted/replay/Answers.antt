use Rattle.std.proofs.Common.{List, subst, sym}
use Rattle.sal_mount.specs.declared.call.MountCall.{MountCall}
use Rattle.sal_history.specs.declared.call.Call.{Call}
use Rattle.sal_history.specs.Services.{mount_call}
use Rattle.sal_history.specs.MountCalls.{with_call}
use Rattle.sal_report.specs.Replayed.{Follows}
use Rattle.sal_report.proofs.mounted.replay.Goals as goal

pub returns-in-Unmount-clause-follows : goal.returns-in-Unmount-clause-follows
returns-in-Unmount-clause-follows c =
    let P : Call → Type 0 = λ call. (calls : List MountCall) → Follows calls c.args.mounts.now c.args.marks.now → Follows (with_call calls (mount_call call)) c.unmount.new.mounts c.args.marks.now in
    subst P (sym c.in-Unmount.is) (λ calls was. c.unmount.ensures.follows calls c.args.marks.now was)
