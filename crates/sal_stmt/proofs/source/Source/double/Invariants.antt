use Rattle.std.proofs.Common.{◌≡◌, ◌-◌, ◌≤◌, length, take, drop}
use Rattle.sal_types.specs.Reading.{with_front}
use Rattle.sal_stmt.specs.Text.{double}
use Rattle.sal_stmt.proofs.source.Source.double.Given as goal

abbrev pub invariant-bytes : goal.invariant-bytes
invariant-bytes l = (l.i ≤ length l.s) × (double l.self.text.now l.start l.s ≡ with_front (take l.i l.s) (double l.self.text.now l.start (drop l.i l.s)))

abbrev pub decreases-bytes : goal.decreases-bytes
decreases-bytes l = length l.s - l.i
