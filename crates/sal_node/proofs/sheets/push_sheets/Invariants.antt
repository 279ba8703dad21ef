use Rattle.std.proofs.Common.{◌≡◌, ◌++◌, take}
use Rattle.sal_node.specs.Shape.{sheeted, seen}
use Rattle.sal_node.proofs.sheets.push_sheets.Given as goal

abbrev pub invariant-loop-sheet : goal.invariant-loop-sheet
invariant-loop-sheet l = seen l.into.items ≡ seen l.initial.into.items ++ sheeted (take l.sheet-index l.sheets)
