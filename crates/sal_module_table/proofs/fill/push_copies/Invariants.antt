-- The types so far.
use Rattle.std.proofs.Common.{◌≡◌, ◌++◌, take}
use Rattle.sal_module_table.proofs.fill.push_copies.Given as goal

abbrev pub invariant-loop-t : goal.invariant-loop-t
invariant-loop-t l = l.out.items ≡ l.initial.out.items ++ take l.t-index l.types
