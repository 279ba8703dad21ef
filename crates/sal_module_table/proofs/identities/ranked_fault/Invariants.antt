-- The least fault of the identities so far.
use Rattle.std.proofs.Common.{◌≡◌, take, None}
use Rattle.sal_module.specs.Faults.{least}
use Rattle.sal_grouping.specs.Indexes.{lists}
use Rattle.sal_grouping.proofs.Places.{numbered}
use Rattle.sal_module_table.specs.Identities.{seen, faults_of}
use Rattle.sal_module_table.proofs.identities.ranked_fault.Given as goal

abbrev pub invariant-loop-i : goal.invariant-loop-i
invariant-loop-i l = l.best ≡ least None (numbered (faults_of l.typedefs (lists l.circles.edges.now)) 0 (take l.i (seen l.all)))
