use Rattle.std.proofs.Common.{rules, ap, ◌∙◌, subst}
use Rattle.sal_turn.specs.Tells.{Begun}
use Rattle.sal_turn.proofs.turn.Turn.enter.Given as given
use Rattle.sal_turn.proofs.turn.Turn.enter.Goals as goal

pub invariant_of-result : goal.invariant_of-result
invariant_of-result g c = let b = c.begin-value.ensures.begun in (b.carries, b.staged, b.mine, ap (λ v. v.number) b.same ∙ c.seat.invariant.2)
