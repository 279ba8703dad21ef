-- Those taken so far, and those left.
use Rattle.std.proofs.Common.{List, take, drop, reverse}
use Rattle.sal_typedefs.specs.Types.{Judged}
use Rattle.sal_typedefs.specs.Judgements.{AreJudged}
use Rattle.sal_typedefs.proofs.evaluate.take_last.Given as goal

abbrev pub invariant-loop-i : goal.invariant-loop-i
invariant-loop-i l = (judged : List Judged) → AreJudged (reverse l.initial.done.items) judged → AreJudged l.below.items (take l.i judged) × AreJudged (reverse l.done.items) (drop l.i judged)
