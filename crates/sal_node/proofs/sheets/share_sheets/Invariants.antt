use Rattle.std.proofs.Common.{◌≡◌, ◌++◌, take}
use Rattle.sal_node.specs.Shape.{sheeted, AreSheets}
use Rattle.sal_node.proofs.sheets.share_sheets.Given as goal

abbrev pub invariant-loop-sheet : goal.invariant-loop-sheet
invariant-loop-sheet l = record {
  list : sheeted l.into.items ≡ sheeted l.initial.into.items ++ sheeted (take l.sheet-index l.sheets);
  sheets : AreSheets l.into.items;
}
