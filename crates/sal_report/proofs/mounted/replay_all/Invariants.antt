use Rattle.std.proofs.Common.{◌≡◌, take}
use Rattle.sal_history.specs.MountCalls.{mounts_in}
use Rattle.sal_report.specs.Replayed.{Follows}
use Rattle.sal_report.proofs.mounted.replay_all.Given as goal

abbrev pub invariant-loop-entry : goal.invariant-loop-entry
invariant-loop-entry l = Follows (mounts_in (take l.entry-index l.log)) l.mounts l.marks × (l.mounts.devices ≡ l.initial.mounts.devices)
