use Rattle.std.proofs.Common.{◌≡◌, take}
use Rattle.sal_module.proofs.modules.copies.Given as goal

abbrev pub invariant-loop-stmt : goal.invariant-loop-stmt
invariant-loop-stmt l = l.list.items ≡ take l.stmt-index l.stmts
