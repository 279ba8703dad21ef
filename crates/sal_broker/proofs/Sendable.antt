-- A seat may go to another thread, and the lock may be shared with one.
use denote.Param.Send.{IsSend, IsSync, sendable}
use Rattle.std.proofs.Crossing.{crosses}
use Rattle.std.proofs.MapsCrossing as maps
use Rattle.sal_turn.proofs.seat.Seat.TheSendSync as TurnSeat-here
use Rattle.sal_turn.proofs.turn.Turn.TheSendSync as Turn-here
use Rattle.sal_broker.specs.contracts.shared.Shared as Shared
use Rattle.sal_broker.specs.contracts.seat.Seat as Seat
use Rattle.sal_broker.specs.contracts.sal.Sal as Sal
use Rattle.sal_hub.proofs.Sendable.{Hub-send}

Shared-send : IsSend Shared.the_row
Shared-send = search (Hub-send, crosses, maps.crosses, sendable) depth 40 fits 20000

pub Seat-send : IsSend Seat.the_row
Seat-send = search (TurnSeat-here.the_send, Shared-send, crosses, maps.crosses, sendable) depth 40 fits 20000

pub Sal-sync : IsSync Sal.the_row
Sal-sync = search (Turn-here.the_sync, Shared-send, crosses, maps.crosses, sendable) depth 40 fits 20000
