use Rattle.std.proofs.Common.{◌≡◌, ◌++◌, drop}
use Rattle.sal_draw.specs.Acts.{taken_acts}
use Rattle.sal_draw.proofs.acts.add_taken.Given as goal

abbrev pub invariant-loop-i : goal.invariant-loop-i
invariant-loop-i l = l.acts.items ++ taken_acts l.offers.entries (drop l.i l.notes) ≡ l.initial.acts.items ++ taken_acts l.offers.entries l.notes
