-- The number so far, or the cap.
use Rattle.std.proofs.Common.{◌≡◌, take, min}
use Rattle.sal_module.specs.Arguments.{decimal}
use Rattle.sal_typedefs.proofs.numbering.decimal.Given as goal

abbrev pub invariant-loop-digit : goal.invariant-loop-digit
invariant-loop-digit l = l.number ≡ min 4294967296 (decimal (take l.digit-index l.digits))
