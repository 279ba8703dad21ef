-- So far the mark was not there, and the seat has no entries more.
use Rattle.std.proofs.Common.{◌≡◌, ◌⊎◌, ◌+◌, false, Some}
use mathlib.Core.List.{IsPrefix}
use Rattle.sal_turn.specs.Entries.{entries_by}
use Rattle.sal_turn.specs.Views.{SameRights}
use Rattle.sal_hub.specs.Marks.{has_mark}
use Rattle.sal_broker.specs.Seats.{client_of}
use Rattle.sal_broker.proofs.sal.Sal.enter_after.Given as goal

abbrev pub invariant-loop : goal.invariant-loop
invariant-loop g l = record {
  same : (l.held.lock ≡ l.self) × SameRights l.fn.seat.view l.held.view × (l.held.view.own ≡ l.fn.seat.view.own);
  hub : l.held.hub ≡ l.held.found;
  world : l.fn.seat.view.ground ≡ Some l.held.found.world;
  seen : IsPrefix l.fn.seat.view.seen l.held.found.log;
  own : entries_by client_of l.fn.seat.view.number l.held.found.log ≡ l.fn.seat.view.own;
  turns : l.held.view.turns + 1 ≡ l.fn.seat.view.turns + l.counter;
  missed : (l.held.view.turns ≡ l.fn.seat.view.turns) ⊎ (has_mark l.held.view.seen l.mark ≡ false);
}
