use Rattle.std.proofs.Common.{ap}
use Rattle.sal_node.specs.declared.node.Sheet.{Sheet}
use Rattle.sal_node.proofs.SheetRows.{sheeted-push, AreSheets-push}
use Rattle.sal_node.proofs.sheets.add_sheet.Goals as goal

pub returns-clause-list : goal.returns-clause-list
returns-clause-list c = sheeted-push c.args.into.now.items c.in_ok-sheet.sheet c.args.sheet.pages.items _ (ap (λ (s : Sheet). s.pages.items) c.in_ok-sheet.ensures.ok) c.in_ok-push.ensures.items

pub returns-clause-sheets : goal.returns-clause-sheets
returns-clause-sheets c = AreSheets-push c.args.into.now.items c.in_ok-sheet.sheet c.args.sheet.pages.items _ (ap (λ (s : Sheet). s.pages.items) c.in_ok-sheet.ensures.ok) c.in_ok-push.ensures.items c.requires.some c.requires.few c.requires.pages (rw (ap (λ (s : Sheet). s.newest) c.in_ok-sheet.ensures.ok) c.requires.newest) c.requires.old
