-- The remaining comparisons.
use Rattle.std.proofs.Common.{◌≡◌, drop, nat_eq}
use Rattle.sal_module_table.specs.Lists.{all_differ}
use Rattle.sal_module_table.proofs.lists.all_differ.Given as goal

abbrev pub invariant-loop-i : goal.invariant-loop-i
invariant-loop-i l = all_differ nat_eq l.numbers ≡ all_differ nat_eq (drop l.i l.numbers)
