-- The result of a seat that worked.
use Rattle.std.specs.Prelude.{◌≡◌, ℕ}
use Rattle.sal_turn.specs.Seats.{Place, TableId}
use Rattle.sal_turn.specs.Views.{SameRights}
use Rattle.sal_turn.specs.declared.view.View.{View}

abbrev pub Works : TableId → View (ℕ × ℕ) ℕ → Place (ℕ × ℕ) ℕ → Type 0
Works lock before after = (after.lock ≡ lock) × SameRights before after.view
