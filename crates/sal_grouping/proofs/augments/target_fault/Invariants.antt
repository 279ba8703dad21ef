use Rattle.std.proofs.Common.{◌≡◌, take, None}
use Rattle.sal_module.specs.Faults.{least}
use Rattle.sal_grouping.specs.Augments.{target_faults}
use Rattle.sal_grouping.proofs.augments.target_fault.Given as goal

abbrev pub invariant-loop-k : goal.invariant-loop-k
invariant-loop-k l = l.best ≡ least None (target_faults l.rows (take l.k-index l.left))
