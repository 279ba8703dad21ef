-- The word is at none of the places before.
use Rattle.std.proofs.Common.{◌≡◌, ◌+◌, drop}
use Rattle.sal_restrict.specs.Words.{place_of}
use Rattle.sal_restrict.proofs.words.place_of.Given as goal

abbrev pub invariant-loop-i : goal.invariant-loop-i
invariant-loop-i l = place_of l.word l.text ≡ l.i + place_of l.word (drop l.i l.text)
