use Rattle.std.proofs.Common.{◌≡◌, take}
use Rattle.sal_grouping.specs.Versions.{new_augments}
use Rattle.sal_grouping.proofs.versions.new_augments.Given as goal

abbrev pub invariant-loop-k : goal.invariant-loop-k
invariant-loop-k l = l.augments.items ≡ new_augments l.old (take l.k l.rows)
