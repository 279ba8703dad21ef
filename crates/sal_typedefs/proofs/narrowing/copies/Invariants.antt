-- The copies made so far are the first patterns.
use Rattle.std.proofs.Common.{◌≡◌, take}
use Rattle.sal_typedefs.proofs.narrowing.copies.Given as goal

abbrev pub invariant-loop-pattern : goal.invariant-loop-pattern
invariant-loop-pattern l = l.list.items ≡ take l.pattern-index l.patterns
