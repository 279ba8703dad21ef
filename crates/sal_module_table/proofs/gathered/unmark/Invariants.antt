-- The marks that are left are of numbers that are left.
use Rattle.std.proofs.Common.{drop}
use Rattle.sal_module_table.proofs.Marking.{AreLeft}
use Rattle.sal_module_table.proofs.gathered.unmark.Given as goal

abbrev pub invariant-loop-k : goal.invariant-loop-k
invariant-loop-k l = AreLeft l.marks (drop l.k-index l.numbers)
