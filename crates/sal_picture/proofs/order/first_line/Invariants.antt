use Rattle.std.proofs.Common.{◌≡◌, ◌+◌, drop, nat_eq}
use Rattle.std.specs.List.{position_or_len}
use Rattle.sal_picture.proofs.order.first_line.Given as goal

abbrev pub invariant-loop-i : goal.invariant-loop-i
invariant-loop-i l = position_or_len (λ b. nat_eq b 10) l.text ≡ l.i + position_or_len (λ b. nat_eq b 10) (drop l.i l.text)
