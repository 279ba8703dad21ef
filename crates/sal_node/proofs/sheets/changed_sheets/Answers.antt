use Rattle.sal_node.specs.Tree.{change}
use Rattle.std.proofs.Common.{take, drop, length, arith, ◌+◌, ap, ◌++◌, ◌∙◌, sym}
use Rattle.sal_node.specs.declared.node.Sheet.{Sheet}
use Rattle.sal_node.specs.Shape.{tree_in, listed, sheeted}
use Rattle.sal_node.proofs.Placed.{change-placed, sheet-sorted, sheet-fits}
use Rattle.sal_node.proofs.sheets.changed_sheets.Goals as goal

pub changed_sheet-requires-clause-pages : goal.changed_sheet-requires-clause-pages
changed_sheet-requires-clause-pages c = rw c.deref.ensures (sheet-fits c.args.sheets.now c.target_sheet-at.result c.index-sheets-at.result c.target_sheet-at.ensures.bound c.index-sheets-at.is c.requires.old).2

pub changed_sheet-requires-clause-newest : goal.changed_sheet-requires-clause-newest
changed_sheet-requires-clause-newest c = rw c.deref.ensures (sheet-fits c.args.sheets.now c.target_sheet-at.result c.index-sheets-at.result c.target_sheet-at.ensures.bound c.index-sheets-at.is c.requires.old).3

pub changed_sheet-requires-clause-sorted : goal.changed_sheet-requires-clause-sorted
changed_sheet-requires-clause-sorted c = rw c.deref.ensures (sheet-sorted c.args.sheets.now c.target_sheet-at.result c.index-sheets-at.result c.target_sheet-at.ensures.bound c.index-sheets-at.is c.requires.sorted)

pub resheeted-requires-clause-few : goal.resheeted-requires-clause-few
resheeted-requires-clause-few c = omega (arith, ap (λ (s : Sheet). length s.pages.items) c.deref.ensures, c.in_ok-sheet.ensures.count, (sheet-fits c.args.sheets.now c.target_sheet-at.result c.index-sheets-at.result c.target_sheet-at.ensures.bound c.index-sheets-at.is c.requires.old).1)

pub returns-clause-list : goal.returns-clause-list
returns-clause-list c =
    c.in_ok-list-2.ensures.list
    ∙ ap (λ es. sheeted (take c.target_sheet-at.result c.args.sheets.now) ++ (es ++ sheeted (drop (c.target_sheet-at.result + 1) c.args.sheets.now))) (c.in_ok-sheet.ensures.list ∙ ap (λ (s : Sheet). change c.args.step.now (tree_in c.args.node) (listed s.pages.items)) c.deref.ensures)
    ∙ sym (change-placed c.args.sheets.now c.args.step.now (tree_in c.args.node) c.target_sheet-at.result c.index-sheets-at.result c.target_sheet-at.ensures c.index-sheets-at.is c.requires.old c.requires.sorted)
