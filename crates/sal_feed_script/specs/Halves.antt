-- The progress of both halves: the one that offers notifications in their order, and the one that takes them.
use Rattle.std.specs.Prelude.{◌≡◌, ◌≤◌, ◌*◌, ℕ, List, [], length, map}
use Rattle.std.specs.List.{range_with_len, sum_by}
use Rattle.sal_note.specs.declared.call.Note.{Note}
use Rattle.sal_feed.specs.Seats.{Named}
use Rattle.sal_feed_script.specs.declared.rounds.Offered.{Offered}
use Rattle.sal_feed_script.specs.declared.rounds.Taken.{Taken}

-- a notification with a number and no rows
abbrev pub note_of : ℕ → Note
note_of n = record { note = n; rows = [] }

-- those with the numbers from 0 to n - 1
abbrev pub notes_below : ℕ → List Note
notes_below n = map note_of (range_with_len 0 n)

-- the sum of the numbers of notifications
abbrev pub sum_of : List Note → ℕ
sum_of notes = sum_by (λ note. note.note) notes

-- of `notes` notifications, those before the next one were offered
pub record IsOffered (feed : Named) (notes : ℕ) (half : Offered) : Type 0 where
  pub own : half.seat.feed ≡ feed.id
  pub offered : half.seat.offered ≡ notes_below half.next
  pub within : half.next ≤ notes

-- `count` notifications were taken, and `sum` is the sum of their numbers, of 32 bits each
pub record IsTaken (feed : Named) (notes : ℕ) (half : Taken) : Type 0 where
  pub own : half.seat.feed ≡ feed.id
  pub count : length half.seat.taken ≡ half.count
  pub sum : sum_of half.seat.taken ≡ half.sum
  pub bound : half.sum ≤ half.count * 4294967295
  pub within : half.count ≤ notes

-- both halves, between rounds
abbrev pub AreHalves : Named → ℕ → Offered × Taken → Type 0
AreHalves feed notes halves = IsOffered feed notes halves.0 × IsTaken feed notes halves.1
