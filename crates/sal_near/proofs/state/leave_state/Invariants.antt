use Rattle.std.proofs.Common.{◌≡◌, false, take}
use Rattle.std.specs.List.{list_any}
use Rattle.sal_near.specs.Near.{leaves_state}
use Rattle.sal_near.proofs.state.leave_state.Given as goal

abbrev pub invariant-loop-patch : goal.invariant-loop-patch
invariant-loop-patch l = list_any (leaves_state l.schema l.rows) (take l.patch-index l.patches) ≡ false
