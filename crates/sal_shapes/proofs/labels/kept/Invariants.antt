use Rattle.std.proofs.Common.{◌≡◌, ◌≤◌, drop}
use Rattle.sal_shapes.specs.Labels.{kept}
use Rattle.sal_shapes.proofs.labels.kept.Given as goal

abbrev pub invariant-loop-i : goal.invariant-loop-i
invariant-loop-i l = (kept l.room 0 0 0 l.text ≡ kept l.room l.end l.i l.p (drop l.i l.text)) × (l.end ≤ l.i)
