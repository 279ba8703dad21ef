-- The first members.
use Rattle.std.proofs.Common.{◌≡◌, ◌++◌, take}
use Rattle.sal_typedefs.proofs.meaning.push_members.Given as goal

abbrev pub invariant-loop-member : goal.invariant-loop-member
invariant-loop-member l = l.flat.items ≡ l.initial.flat.items ++ take l.member-index l.member-items
