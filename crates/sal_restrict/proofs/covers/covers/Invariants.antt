-- Up to which number the parts cover.
use Rattle.std.proofs.Common.{drop}
use Rattle.sal_restrict.proofs.Numbers.{IsHeldUpto}
use Rattle.sal_restrict.proofs.covers.covers.Given as goal

abbrev pub invariant-loop-part : goal.invariant-loop-part
invariant-loop-part l = IsHeldUpto l.parts (drop l.part-index l.parts) l.numbers l.next
