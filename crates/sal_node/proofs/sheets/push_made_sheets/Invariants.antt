use Rattle.std.proofs.Common.{◌≡◌, ◌++◌, take}
use Rattle.sal_node.specs.Shape.{sheeted, seen, made_by}
use Rattle.sal_node.proofs.sheets.push_made_sheets.Given as goal

abbrev pub invariant-loop-sheet : goal.invariant-loop-sheet
invariant-loop-sheet l = seen l.into.items ≡ seen l.initial.into.items ++ made_by l.stamps (sheeted (take l.sheet-index l.sheets))
