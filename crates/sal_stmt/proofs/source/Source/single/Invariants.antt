use Rattle.std.proofs.Common.{◌≡◌, take, drop}
use Rattle.sal_types.specs.Reading.{with_front}
use Rattle.sal_stmt.specs.Text.{single}
use Rattle.sal_stmt.proofs.source.Source.single.Given as goal

abbrev pub invariant-loop-i : goal.invariant-loop-i
invariant-loop-i l = single l.self.text.now l.start l.s ≡ with_front (take l.i l.s) (single l.self.text.now l.start (drop l.i l.s))
