use Rattle.std.proofs.Common.{◌≡◌, drop, length}
use Rattle.sal_script.proofs.Each.{each_from, before}
use Rattle.sal_owner_script.proofs.Reading.{step_at}
use Rattle.sal_owner_script.proofs.read.steps_of.Given as goal

abbrev pub invariant-loop-number : goal.invariant-loop-number
invariant-loop-number l = record {
  read : before l.steps.items (each_from step_at l.number (drop l.number l.list)) ≡ each_from step_at 0 l.list;
  count : length l.steps.items ≡ l.number;
}
