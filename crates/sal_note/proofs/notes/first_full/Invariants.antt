use Rattle.std.proofs.Common.{◌≡◌, [], length, take, nat_le}
use Rattle.std.specs.List.{filter}
use Rattle.sal_note.specs.Boxes.{queue_in}
use Rattle.sal_note.proofs.notes.first_full.Given as goal

abbrev pub invariant-loop-client : goal.invariant-loop-client
invariant-loop-client l = filter (λ c. nat_le 64 (length (queue_in l.queues.entries c))) (take l.client-index l.clients) ≡ []
