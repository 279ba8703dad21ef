-- Of the mounts so far, those whose domain is live are listed.
use Rattle.std.proofs.Common.{◌≡◌, List, map, take}
use Rattle.sal_mount.specs.declared.call.MountCall.{MountCall}
use Rattle.sal_mount.specs.Register.{IsOf}
use Rattle.sal_epoch.specs.Mounts.{live_after, live_among, mount_of}
use Rattle.sal_epoch.proofs.mounts.live_of.Given as goal

abbrev pub invariant-loop-mount : goal.invariant-loop-mount
invariant-loop-mount l = (calls : List MountCall) → IsOf calls l.register → map mount_of l.live.items ≡ live_among (live_after l.register calls) (take l.mount-index l.made)
