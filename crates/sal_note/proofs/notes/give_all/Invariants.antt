use Rattle.std.proofs.Common.{◌≡◌, take}
use Rattle.sal_note.specs.Boxes.{given}
use Rattle.sal_note.proofs.notes.give_all.Given as goal

abbrev pub invariant-loop-i : goal.invariant-loop-i
invariant-loop-i l = l.queues.entries ≡ given l.note l.initial.queues.entries (take l.i l.clients)
