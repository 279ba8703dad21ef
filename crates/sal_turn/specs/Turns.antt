-- The effect of a call for a caller with a seat: one turn, with some change of the value found. `entries`, `client_of` and `base` are the value's
-- entries, their clients and its ground. `known` is the value as far as a seat has seen it.
use Rattle.std.specs.Prelude.{◌≡◌, ℕ, ◌+◌, ◌^◌, ◌<◌, ◌++◌, List, Some, length, drop}
use Rattle.std.specs.Fn.{Once}
use denote.Ref.{MutBor}
use mathlib.Core.List.{IsPrefix}
use Rattle.sal_turn.specs.Entries.{AddsAtMostOne, entries_by}
use Rattle.sal_turn.specs.Seats.{Place, TableId}
use Rattle.sal_turn.specs.Tells.{FitsSeat}
use Rattle.sal_turn.specs.Views.{SameRights}
use Rattle.sal_turn.specs.declared.view.View.{View}

-- the seat is at the same lock, and its number, ground and rights are unchanged
abbrev pub Keeps : {E G : Type 0} → TableId → Place E G → Place E G → Type 0
Keeps lock old new = (new.lock ≡ lock) × SameRights old.view new.view

module _ {V E G : Type 0} (entries : V → List E) (client_of : E → ℕ) (base : V → G) (known : View E G → V) where
  -- A turn of a seat that knew v found a value over the seat's ground: the list seen is a prefix of its entries, and the entries of the seat's
  -- number are the seat's own. The turn left a value, and then the seat knows w: it has seen all entries of that value, and its own entries
  -- have grown by the one added.
  pub record TurnOf (v : View E G) (client : ℕ) (found left : V) (w : View E G) : Type 0 where
    pub number : client ≡ v.number
    pub over : v.ground ≡ Some (base found)
    pub seen : IsPrefix v.seen (entries found)
    pub mine : entries_by client_of v.number (entries found) ≡ v.own
    pub now : known w ≡ left
    pub own : w.own ≡ v.own ++ drop (length (entries found)) (entries left)

  -- in the last turn that the call took this was done, for the seat's client, from the value that was found to the value that was left
  abbrev pub InLastTurn : View E G → View E G → (ℕ → V → V → Type 0) → Type 0
  InLastTurn v w Does = (client : ℕ) × (found left : V) × Does client found left × TurnOf v client found left w

  -- the call took one turn, and in it this was done
  abbrev pub InTurn : View E G → View E G → (ℕ → V → V → Type 0) → Type 0
  InTurn v w Does = (w.turns ≡ v.turns + 1) × InLastTurn v w Does

-- ---- a turn that a closure makes

module _ {V E G F T : Type 0} (entries : V → List E) (client_of : E → ℕ) (base : V → G) (g : Once F (MutBor V × (ℕ × Unit {0})) (T × (MutBor V × Unit {0}))) (call : F) (v : View E G) where
  -- on the value found, the call for the seat's client may give the result and leave this value
  pub record Does (found : V) (result : T) (left : V) : Type 0 where
    pub client : ℕ
    pub number : client ≡ v.number
    pub small : client < 2 ^ 32
    pub before : MutBor V
    pub shows : before.now ≡ found
    pub after : MutBor V
    pub leaves : after.now ≡ left
    pub met : g.post call (before, (client, tt)) (result, (after, tt))

  -- the call may be made on each value that a turn of the seat may find
  abbrev pub Takes : Type 0
  Takes = (before : MutBor V) → FitsSeat entries client_of base before.now v → g.pre call (before, (v.number, tt))

  -- on such a value it keeps the ground, and adds at most one entry, of the seat's client
  abbrev pub Adds : Type 0
  Adds = (found left : V) (result : T) → FitsSeat entries client_of base found v → Does found result left → (base left ≡ base found) × AddsAtMostOne client_of v.number (entries found) (entries left)

  -- The call was made on such a value. The seat has then seen all entries of the value that was left, and its own entries have grown by the one added.
  pub record Turned (result : T) (w : View E G) : Type 0 where
    pub found : V
    pub left : V
    pub fits : FitsSeat entries client_of base found v
    pub does : Does found result left
    pub now : w.seen ≡ entries left
    pub own : w.own ≡ v.own ++ drop (length (entries found)) (entries left)
