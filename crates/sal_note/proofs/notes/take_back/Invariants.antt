use Rattle.std.proofs.Common.{◌≡◌, ◌≤◌, drop, length}
use Rattle.sal_note.specs.Boxes.{taken_back}
use Rattle.sal_note.proofs.notes.take_back.Given as goal

abbrev pub invariant-loop-left : goal.invariant-loop-left
invariant-loop-left l = record {
  within : l.left ≤ length l.clients;
  taken : l.queues.entries ≡ taken_back l.initial.queues.entries (drop l.left l.clients);
}

abbrev pub decreases-loop-left : goal.decreases-loop-left
decreases-loop-left l = l.left
