-- The numbers so far.
use Rattle.std.proofs.Common.{◌≡◌, fold, take}
use Rattle.sal_module_table.specs.Identities.{with_number}
use Rattle.sal_module_table.proofs.derived.add_all.Given as goal

abbrev pub invariant-loop-k : goal.invariant-loop-k
invariant-loop-k l = l.gathered ≡ fold with_number l.initial.gathered (take l.k-index l.numbers)
