use Rattle.std.proofs.Common.{◌≡◌, ◌+◌, length, take}
use Rattle.sal_node.specs.Shape.{sheeted}
use Rattle.sal_node.proofs.sheets.room_after_sheets.Given as goal

abbrev pub invariant-loop-sheet : goal.invariant-loop-sheet
invariant-loop-sheet l = l.left + length (sheeted (take l.sheet-index l.sheets)) ≡ l.room
