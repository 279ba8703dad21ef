-- How a clause sees a seat and its turn.
use Rattle.std.specs.Prelude.{List, []}
pub use Rattle.atomic_table.specs.Seated.{TableId}
use Rattle.sal_turn.specs.Views.{spent}
use Rattle.sal_turn.specs.declared.view.View.{View}

-- a seat: its lock, and what it knows
pub record Place (E G : Type 0) : Type 0 where
  pub lock : TableId
  pub view : View E G

-- a turn: the same of its seat, the entries that were found, and the value
pub record Holding (V E G : Type 0) : Type 0 where
  pub lock : TableId
  pub view : View E G
  pub found : List E
  pub value : V

-- no seat: the value of a larger type while its seat has a turn
abbrev pub nowhere : {E G : Type 0} → Place E G
nowhere = record { lock = record { words = 0; slots = 0; views_name = 0; atom = 0; block = 0; offset = 0; slot_names = [] }; view = spent }
