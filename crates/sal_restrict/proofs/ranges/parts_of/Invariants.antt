-- The copies made so far are the first parts.
use Rattle.std.proofs.Common.{◌≡◌, take}
use Rattle.sal_restrict.proofs.ranges.parts_of.Given as goal

abbrev pub invariant-loop-part : goal.invariant-loop-part
invariant-loop-part l = l.list.items ≡ take l.part-index l.parts
