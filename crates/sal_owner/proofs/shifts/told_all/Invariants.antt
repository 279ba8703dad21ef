use Rattle.std.proofs.Common.{◌≡◌, []}
use Rattle.sal_owner.specs.Shifts.{told_over}
use Rattle.sal_owner.proofs.shifts.told_all.Given as goal

abbrev pub invariant-loop-n : goal.invariant-loop-n
invariant-loop-n l = told_over l.client l.shifts l.list.items l.n-iterator ≡ told_over l.client l.shifts [] l.due.entries
