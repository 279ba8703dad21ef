use Rattle.std.proofs.Common.{◌≡◌, ◌++◌, drop}
use Rattle.sal_draw_log.specs.Drawn.{made_on}
use Rattle.sal_draw_log.proofs.scenes.made_on.Given as goal

abbrev pub invariant-loop-i : goal.invariant-loop-i
invariant-loop-i l = l.made.items ++ made_on (drop l.i l.sent) (drop l.i l.outcomes) ≡ made_on l.sent l.outcomes
