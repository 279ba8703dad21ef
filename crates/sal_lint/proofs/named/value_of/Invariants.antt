use Rattle.std.proofs.Common.{◌≡◌, fold, take}
use Rattle.sal_lint.specs.Named.{with_digit}
use Rattle.sal_lint.proofs.named.value_of.Given as goal

abbrev pub invariant-loop-byte : goal.invariant-loop-byte
invariant-loop-byte l = l.number ≡ fold with_digit 0 (take l.byte-index l.digits)
