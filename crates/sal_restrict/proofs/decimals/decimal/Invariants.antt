-- The number so far, or the greatest one.
use Rattle.std.proofs.Common.{◌≡◌, ◌-◌, ◌^◌, take, min}
use Rattle.sal_restrict.specs.Bounds.{decimal}
use Rattle.sal_restrict.proofs.decimals.decimal.Given as goal

abbrev pub invariant-loop-digit : goal.invariant-loop-digit
invariant-loop-digit l = l.number ≡ min (decimal (take l.digit-index l.text)) (2 ^ 128 - 1)
