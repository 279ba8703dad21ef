use Rattle.std.proofs.Common.{arith, ap, ◌∙◌}
use Rattle.sal_node.specs.declared.node.Sheet.{Sheet}
use Rattle.sal_node.proofs.SheetRows.{sheeted-next}
use Rattle.sal_node.proofs.sheets.push_sheets.Goals as goal

pub loop-sheet-preserved : goal.loop-sheet-preserved
loop-sheet-preserved c = sheeted-next c.loop-sheet.into.items c.args.sheets.now c.loop-sheet.sheet-index c.sheet-item.result c.deref-in-loop-sheet.result.now c.args.into.now.items c.push_pages.new.into.items (omega arith) c.sheet-item.is (c.deref-in-loop-sheet.ensures.value ∙ ap (λ (s : Sheet). s.pages.items) c.deref.ensures) c.loop-sheet.invariant c.in_ok-push_pages.ensures
