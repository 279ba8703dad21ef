-- How a contract sees a seat and its turn.
use Rattle.std.specs.Prelude.{ℕ, List, [], Option, Some, None, unwrap_or}
use Rattle.sal_history.specs.World.{Domain}
use Rattle.sal_history.specs.declared.call.Entry.{Entry}
use Rattle.sal_turn.specs.Seats.{Place, TableId, nowhere}
use Rattle.sal_turn.specs.declared.view.View.{View}
use Rattle.sal_hub.specs.HubHistory.{HubHistory}

-- what a seat knows: its number, the entries that it has seen, its own entries, and more
abbrev pub SeatView : Type 0
SeatView = View Entry (List Domain)

-- the place in the slot, or none while the seat has its turn
abbrev pub inside : Option (Place Entry (List Domain)) → Place Entry (List Domain)
inside (Some place) = place
inside None = nowhere

-- the client of an entry
abbrev pub client_of : Entry → ℕ
client_of e = e.client

-- the hub over the seat's world that has this log
abbrev pub hub_with : SeatView → List Entry → HubHistory
hub_with v log = record { world = unwrap_or v.ground []; log = log }

-- the hub as far as the seat has seen it
abbrev pub known : SeatView → HubHistory
known v = hub_with v v.seen

-- a turn: the lock and the view of its seat, the hub that was found, and the hub as it is now
pub record Holding : Type 0 where
  pub lock : TableId
  pub view : SeatView
  pub found : HubHistory
  pub hub : HubHistory
