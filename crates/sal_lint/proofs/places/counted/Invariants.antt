use Rattle.std.proofs.Common.{◌≡◌}
use Rattle.sal_lint.specs.Places.{place_of}
use Rattle.sal_lint.proofs.places.counted.Given as goal

abbrev pub invariant-loop-i : goal.invariant-loop-i
invariant-loop-i l = l.place ≡ place_of l.text l.i
