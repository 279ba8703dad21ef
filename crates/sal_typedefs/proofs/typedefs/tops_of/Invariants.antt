-- The first blocks.
use Rattle.std.proofs.Common.{◌≡◌, take}
use Rattle.sal_typedefs.proofs.typedefs.tops_of.Given as goal

abbrev pub invariant-loop-stmt : goal.invariant-loop-stmt
invariant-loop-stmt l = l.tops.items ≡ take l.stmt-index l.stmts
