-- The number of turns of a client that looks for marks.
use Rattle.std.specs.Prelude.{◌≡◌, ◌⊎◌, ℕ, ◌+◌, ◌*◌, ◌≤◌, Bool, true, false, ◌&&◌, if◌then◌else◌, List, [], ◌∷◌, Option, Some}
use Rattle.sal_history.specs.declared.reply.Reply.{Reply}
use Rattle.sal_history.specs.declared.reply.Reply.TheVariants.{Late}
use Rattle.sal_broker.specs.Seats.{Holding, SeatView, known}
use Rattle.sal_hub.specs.Marks.{has_mark}
use Rattle.sal_script.specs.Orders.{Exchange, Kind, exchanges_in, looks_after}
use Rattle.sal_client.specs.declared.wish.Wish.{Wish}
use Rattle.sal_client.specs.declared.wish.Wish.TheVariants.{After}

abbrev pub is_look : Option Kind → Bool
is_look (Some (looks_after mark)) = true
is_look kind = false

abbrev pub is_late : Reply → Bool
is_late Late = true
is_late r = false

-- a look for a mark that was late
abbrev pub is_late_look : Exchange → Bool
is_late_look x = is_look x.kind && is_late x.reply

-- how many of the calls are such looks
abbrev pub late_looks : List Exchange → ℕ
late_looks [] = 0
late_looks (x ∷ xs) = (if is_late_look x then 1 else 0) + late_looks xs

-- those of a seat's client, in the log that the seat has seen
abbrev pub late_in : SeatView → ℕ
late_in v = late_looks (exchanges_in (known v).world v.seen v.number)

-- Between its first and its last knowledge the seat took at least the largest number of looks for each mark that was late.
abbrev pub Looked : SeatView → SeatView → Type 0
Looked v w = v.turns + 4194304 * late_in w ≤ w.turns + 4194304 * late_in v

-- The turn for a call, of a seat that knew v: the next one. For a look for a mark further ones, each only if the log after the one
-- before has no such mark; and the largest number of looks, unless the log of the last has it.
abbrev pub LooksFor : Wish → SeatView → Holding → Type 0
LooksFor (After mark) v h =
    (v.turns ≤ h.view.turns)
    × ((h.view.turns ≡ v.turns) ⊎ (has_mark h.view.seen mark ≡ false))
    × ((has_mark h.found.log mark ≡ true) ⊎ (h.view.turns + 1 ≡ v.turns + 4194304))
LooksFor wish v h = h.view.turns ≡ v.turns
