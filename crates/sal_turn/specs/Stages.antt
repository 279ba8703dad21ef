-- Where a seat is between two turns or in one.
use Rattle.std.specs.Prelude.{ℕ, Bool, true, false, List, []}
use mathlib.Core.Option.{some, none}
use mathlib.Core.Option as maybe
use Rattle.sal_turn.specs.declared.view.Stage.{Stage}
use Rattle.sal_turn.specs.declared.view.Stage.TheVariants.{Spent, Names, Waits, HasTurn}

module _ {E : Type 0} where
  -- no other seat took it in
  abbrev pub IsLive : Stage E → Type 0
  IsLive Spent = ⊥
  IsLive _ = Unit {0}

  -- the ticket that the seat holds
  abbrev pub ticket : Stage E → maybe.Option ℕ
  ticket (Waits t) = some t
  ticket (HasTurn t found) = some t
  ticket _ = none

  abbrev pub has_turn : Stage E → Bool
  has_turn (HasTurn t found) = true
  has_turn _ = false

  -- the entries that the seat found in its turn
  abbrev pub entries_found : Stage E → List E
  entries_found (HasTurn t found) = found
  entries_found _ = []

  -- the number that the seat is about to give away
  abbrev pub number_named : Stage E → ℕ
  number_named (Names k) = k
  number_named _ = 0
