-- The copies made so far are the first members.
use Rattle.std.proofs.Common.{◌≡◌, take}
use Rattle.sal_restrict.proofs.yang_type.YangType.+copy.Given as goal

abbrev pub invariant-loop-member : goal.invariant-loop-member
invariant-loop-member l = l.copies.items ≡ take l.member-index l.member-items
