-- When a look for a mark is late.
use Rattle.std.specs.Prelude.{◌≡◌, ◌+◌, ℕ, false, List, length}
use Rattle.sal_history.specs.declared.call.Entry.{Entry}
use Rattle.sal_hub.specs.declared.seen.Seen.{Seen}
use Rattle.sal_hub.specs.declared.seen.Seen.TheVariants.{Found, Late}
use Rattle.sal_hub.specs.Marks.{has_mark}
use Rattle.sal_broker.specs.Seats.{SeatView}

-- `Late` comes only after this many turns, with the length of the log in the last of them
abbrev pub IsLate : ℕ → SeatView → SeatView → ℕ → Seen → Type 0
IsLate most v w long Found = Unit {0}
IsLate most v w long (Late looks front) = (looks ≡ most) × (w.turns ≡ v.turns + most) × (front ≡ long)

-- the result of the last look: `Late` only if the log has no such mark
abbrev pub IsMissed : ℕ → List Entry → ℕ → Seen → Type 0
IsMissed most log mark Found = Unit {0}
IsMissed most log mark (Late looks front) = (looks ≡ most) × (front ≡ length log) × (has_mark log mark ≡ false)
