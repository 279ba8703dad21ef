-- The effect of a call for a caller with a seat: one turn, with a call of the hub.
use Rattle.std.specs.Prelude.{◌≡◌, ◌⊎◌, ℕ}
use Rattle.sal_history.specs.declared.call.Entry.{Entry}
use Rattle.sal_hub.specs.HubHistory.{HubHistory, more}
use Rattle.sal_broker.specs.Seats.{SeatView, client_of, known}
pub use Rattle.sal_turn.specs.Turns.{Keeps}
use Rattle.sal_turn.specs.Turns as turns

-- the hub is unchanged, or has one more entry, of the seat's number
abbrev pub OneMoreAtMost : SeatView → HubHistory → HubHistory → Type 0
OneMoreAtMost v found left = (left ≡ found) ⊎ ((e : Entry) × (e.client ≡ v.number) × (left ≡ more found e))

-- A turn of a seat that knew v found a hub, over the seat's world: the log seen is a prefix of its log, and the log's
-- entries of the seat's number are the seat's own. The turn left a hub, and then the seat knows w: it has seen the log of that
-- hub, and its own entries have grown by the one added.
abbrev pub TurnOf : SeatView → ℕ → HubHistory → HubHistory → SeatView → Type 0
TurnOf = turns.TurnOf (λ (h : HubHistory). h.log) client_of (λ (h : HubHistory). h.world) known

-- in the last turn that the call took this was done, for the seat's client, from the hub that was found to the hub that was left
abbrev pub InLastTurn : SeatView → SeatView → (ℕ → HubHistory → HubHistory → Type 0) → Type 0
InLastTurn = turns.InLastTurn (λ (h : HubHistory). h.log) client_of (λ (h : HubHistory). h.world) known

-- the call took one turn, and in it this was done
abbrev pub InTurn : SeatView → SeatView → (ℕ → HubHistory → HubHistory → Type 0) → Type 0
InTurn = turns.InTurn (λ (h : HubHistory). h.log) client_of (λ (h : HubHistory). h.world) known
