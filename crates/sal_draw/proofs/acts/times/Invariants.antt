use Rattle.std.proofs.Common.{◌≡◌, ◌≤◌, ◌+◌, drop}
use Rattle.sal_draw.specs.Acts.{times}
use Rattle.sal_draw.proofs.acts.times.Given as goal

abbrev pub invariant-loop-i : goal.invariant-loop-i
invariant-loop-i l = (times l.note l.notes ≡ l.count + times l.note (drop l.i l.notes)) × (l.count ≤ l.i)
