-- The list follows the calls so far.
use Rattle.std.proofs.Common.{◌≡◌, take}
use Rattle.sal_history.specs.MountCalls.{mounts_in}
use Rattle.sal_epoch.specs.Mounts.{Follows}
use Rattle.sal_epoch.proofs.mounts.replay_all.Given as goal

abbrev pub invariant-loop-entry : goal.invariant-loop-entry
invariant-loop-entry l = Follows (mounts_in (take l.entry-index l.log)) l.register l.made.items × (l.register.devices ≡ l.initial.register.devices)
