use Rattle.std.proofs.Common.{◌≡◌, ◌+◌, drop, nat_eq}
use Rattle.std.specs.List.{position_or_len}
use Rattle.sal_shapes.proofs.frame.index_of.Given as goal

abbrev pub invariant-loop-i : goal.invariant-loop-i
invariant-loop-i l = position_or_len (λ d. nat_eq d l.domain) l.list ≡ l.i + position_or_len (λ d. nat_eq d l.domain) (drop l.i l.list)
