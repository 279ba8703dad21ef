use Rattle.std.proofs.Common.{◌≡◌, take}
use Rattle.sal_rows.specs.Patch.{with_changes}
use Rattle.sal_listen.proofs.mirror.after_changes.Given as goal

abbrev pub invariant-loop-change : goal.invariant-loop-change
invariant-loop-change l = l.rows ≡ with_changes l.initial.rows (take l.change-index l.list)
