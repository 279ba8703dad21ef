use Rattle.std.proofs.Common.{◌≡◌, ◌≤◌, ◌+◌, take}
use Rattle.std.specs.List.{fold}
use Rattle.sal_shapes.specs.Shapes.{draw_row}
use Rattle.sal_shapes.proofs.drawing.Drawing.rows.Given as goal

abbrev pub invariant-loop-row : goal.invariant-loop-row
invariant-loop-row l = (l.self ≡ fold draw_row l.initial.self (take l.row-index l.rows)) × (l.self.rows ≤ l.initial.self.rows + l.row-index)
