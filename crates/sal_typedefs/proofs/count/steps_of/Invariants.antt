-- The result of the first modules.
use Rattle.std.proofs.Common.{◌≡◌, take}
use Rattle.std.specs.List.{sum_by}
use Rattle.sal_typedefs.specs.Names.{count}
use Rattle.sal_typedefs.proofs.count.steps_of.Given as goal

abbrev pub invariant-loop-stmt : goal.invariant-loop-stmt
invariant-loop-stmt l = l.tally ≡ sum_by (count 64) (take l.stmt-index l.stmts)
