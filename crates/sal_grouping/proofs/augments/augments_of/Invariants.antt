use Rattle.std.proofs.Common.{◌≡◌, take}
use Rattle.sal_grouping.specs.Augments.{augments_of}
use Rattle.sal_grouping.proofs.augments.augments_of.Given as goal

abbrev pub invariant-loop-k : goal.invariant-loop-k
invariant-loop-k l = l.augments.items ≡ augments_of (take l.k l.rows)
