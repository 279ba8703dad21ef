use Rattle.std.proofs.Common.{◌≡◌, ℕ, false}
use Rattle.sal_owner.specs.Shifts.{due_by, is_due}
use Rattle.sal_owner.proofs.shifts.due_of.Given as goal

abbrev pub invariant-loop-kind : goal.invariant-loop-kind
invariant-loop-kind l = (n : ℕ) → due_by l.numbers.entries l.from n l.kind-iterator (is_due l.due.entries n) ≡ due_by l.numbers.entries l.from n l.kinds.entries false
