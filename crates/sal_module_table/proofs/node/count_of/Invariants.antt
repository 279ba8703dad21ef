-- The number so far, or the greatest one.
use Rattle.std.proofs.Common.{◌≡◌, take, min}
use Rattle.sal_module.specs.Arguments.{decimal}
use Rattle.sal_module_table.proofs.node.count_of.Given as goal

abbrev pub invariant-loop-digit : goal.invariant-loop-digit
invariant-loop-digit l = l.number ≡ min (decimal (take l.digit-index l.text)) 4294967295
