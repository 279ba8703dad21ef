use Rattle.std.proofs.Common.{List, take, arith, ap, ◌∙◌}
use Rattle.std.specs.declared.sync.Arc.{Arc}
use Rattle.std.specs.declared.alloc.Global.{Global}
use Rattle.sal_node.specs.declared.node.Page.{Page}
use Rattle.sal_node.specs.declared.node.Sheet.{Sheet}
use Rattle.sal_node.specs.Shape.{listed, sheeted, seen, made_by}
use Rattle.sal_node.proofs.Newest.{made-next, made-skip, made_by-none, sheet-step, sheet-upto}
use Rattle.sal_node.proofs.sheets.push_made_sheets.Goals as goal
use Rattle.std.specs.Prelude.{◌++◌}

pub loop-sheet-preserved-then-deref-least : goal.loop-sheet-preserved-then-deref-least
loop-sheet-preserved-then-deref-least c =
    made-skip c.args.stamps.now (seen c.args.into.now.items) (seen c.loop-sheet.into.items) (sheeted (take c.loop-sheet.sheet-index c.args.sheets.now)) (listed c.sheet-item.result.value.pages.items) _
    (sheet-step c.args.sheets.now c.loop-sheet.sheet-index c.sheet-item.result (omega arith) c.sheet-item.is) c.loop-sheet.invariant
    (made_by-none c.sheet-item.result.value.newest c.args.least c.args.stamps.now (listed c.sheet-item.result.value.pages.items)
    (sheet-upto c.args.sheets.now c.loop-sheet.sheet-index c.sheet-item.result c.requires.sheets (omega arith) c.sheet-item.is).1
    (omega (arith, ap (λ (s : Sheet). s.newest) c.deref.ensures, c.if-deref-least.true)) c.requires.least)

pub push_made_pages-requires-clause-pages : goal.push_made_pages-requires-clause-pages
push_made_pages-requires-clause-pages c = rw (c.deref-in-loop-sheet-2.ensures.value, c.deref-in-loop-sheet.ensures) (sheet-upto c.args.sheets.now c.loop-sheet.sheet-index c.sheet-item.result c.requires.sheets (omega arith) c.sheet-item.is).0

pub loop-sheet-preserved : goal.loop-sheet-preserved
loop-sheet-preserved c =
    made-next c.args.stamps.now (seen c.args.into.now.items) (seen c.loop-sheet.into.items) (seen c.push_made_pages.new.into.items) (sheeted (take c.loop-sheet.sheet-index c.args.sheets.now)) (listed c.sheet-item.result.value.pages.items) _
    (sheet-step c.args.sheets.now c.loop-sheet.sheet-index c.sheet-item.result (omega arith) c.sheet-item.is) c.loop-sheet.invariant
    (c.in_ok-push_made_pages.ensures ∙ ap (λ (ps : List (Arc Page Global)). seen c.loop-sheet.into.items ++ made_by c.args.stamps.now (listed ps)) (c.deref-in-loop-sheet-2.ensures.value ∙ ap (λ (s : Sheet). s.pages.items) c.deref-in-loop-sheet.ensures))
