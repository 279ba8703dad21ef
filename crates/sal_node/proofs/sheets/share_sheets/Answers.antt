use Rattle.std.proofs.Common.{arith}
use Rattle.sal_node.proofs.SheetRows.{sheeted-more, AreSheets-more}
use Rattle.sal_node.proofs.sheets.share_sheets.Goals as goal

pub loop-sheet-preserved : goal.loop-sheet-preserved
loop-sheet-preserved c = record {
  list = sheeted-more c.loop-sheet.into.items c.args.sheets.now c.loop-sheet.sheet-index c.sheet-item.result c.in_ok-sheet.sheet c.args.into.now.items c.push.new.self.items (omega arith) c.sheet-item.is c.in_ok-sheet.ensures c.loop-sheet.invariant.list c.in_ok-push.ensures.items;
  sheets = AreSheets-more c.loop-sheet.into.items c.args.sheets.now c.loop-sheet.sheet-index c.sheet-item.result c.in_ok-sheet.sheet c.push.new.self.items (omega arith) c.sheet-item.is c.in_ok-sheet.ensures c.loop-sheet.invariant.sheets c.requires.given c.in_ok-push.ensures.items;
}
