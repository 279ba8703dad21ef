-- The ones so far that exist.
use Rattle.std.proofs.Common.{◌≡◌, take}
use Rattle.sal_module_table.specs.Lists.{given}
use Rattle.sal_module_table.proofs.lists.given.Given as goal

abbrev pub invariant-loop-leaf : goal.invariant-loop-leaf
invariant-loop-leaf l = l.list.items ≡ given (take l.leaf-index l.named)
