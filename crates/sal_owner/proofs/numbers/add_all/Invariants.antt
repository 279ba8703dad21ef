use Rattle.std.proofs.Common.{◌≡◌, ◌||◌, ℕ, take, fold, nat_eq}
use Rattle.sal_owner.specs.Shifts.{is_due}
use Rattle.sal_owner.proofs.numbers.add_all.Given as goal

abbrev pub invariant-loop-number : goal.invariant-loop-number
invariant-loop-number l = (n : ℕ) → is_due l.due.entries n ≡ fold (λ b x. nat_eq x n || b) (is_due l.initial.due.entries n) (take l.number-index l.numbers)
