use Rattle.std.proofs.Common.{ap, arith, length, length-drop}
use Rattle.sal_node.proofs.Rows.{ArePages-take, ArePages-drop}
use Rattle.sal_node.proofs.SheetRows.{sheeted-two}
use Rattle.sal_node.proofs.Newest.{page-parts}
use Rattle.sal_node.proofs.sheets.add_sheets.Goals as goal

pub add_sheet-requires-2-clause-pages : goal.add_sheet-requires-2-clause-pages
add_sheet-requires-2-clause-pages c = rw c.in_ok-last.ensures.items (ArePages-take c.args.sheet.pages.items c.args.parting c.requires.pages)

pub add_sheet-requires-3-clause-pages : goal.add_sheet-requires-3-clause-pages
add_sheet-requires-3-clause-pages c = rw c.in_ok-last.ensures.tail (ArePages-drop c.args.sheet.pages.items c.args.parting c.requires.pages)

pub add_sheet-requires-3-clause-few : goal.add_sheet-requires-3-clause-few
add_sheet-requires-3-clause-few c = omega (arith, length-drop c.args.parting c.args.sheet.pages.items, ap length c.in_ok-last.ensures.tail, c.requires.few)

pub add_sheet-requires-2-clause-newest : goal.add_sheet-requires-2-clause-newest
add_sheet-requires-2-clause-newest c = rw c.in_ok-last.ensures.items (page-parts c.args.sheet.newest c.args.parting c.args.sheet.pages.items c.requires.newest).0

pub add_sheet-requires-3-clause-newest : goal.add_sheet-requires-3-clause-newest
add_sheet-requires-3-clause-newest c = rw c.in_ok-last.ensures.tail (page-parts c.args.sheet.newest c.args.parting c.args.sheet.pages.items c.requires.newest).1

pub returns-clause-list : goal.returns-clause-list
returns-clause-list c = sheeted-two c.args.into.now.items c.add_sheet-2.new.into.items c.add_sheet-3.new.into.items c.args.sheet.pages.items c.split_off.new.self.items c.in_ok-last.last.items c.args.parting c.in_ok-last.ensures.items c.in_ok-last.ensures.tail c.in_ok-add_sheet.ensures.list c.in_ok-add_sheet-2.ensures.list
