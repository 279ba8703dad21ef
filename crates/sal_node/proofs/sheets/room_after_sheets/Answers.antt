use Rattle.std.proofs.Common.{◌≡◌, ℕ, ◌+◌, ◌<◌, ◌≤◌, length, take, refl, sym, ◌∙◌, ap, arith}
use Rattle.sal_node.specs.declared.node.Sheet.{Sheet}
use Rattle.sal_node.specs.Shape.{listed, sheeted}
use Rattle.sal_node.proofs.Parts as parts
use Rattle.sal_node.proofs.SheetRows.{sheet_row}
use Rattle.sal_node.proofs.sheets.room_after_sheets.Goals as goal

pub returns-in-None : goal.returns-in-None
returns-in-None c =
    let is : length (listed c.deref-in-loop-sheet.result.now) ≡ length (sheet_row c.sheet-item.result) = ap (λ pages. length (listed pages)) c.deref-in-loop-sheet.ensures.value ∙ ap (λ (s : Sheet). length (listed s.pages.items)) c.deref.ensures in
    let within : length (sheeted (take c.loop-sheet.sheet-index c.args.sheets.now)) + length (listed c.deref-in-loop-sheet.result.now) ≤ length (sheeted c.args.sheets.now) =
    parts.counted-within sheet_row sheeted refl (λ s ss. refl) c.args.sheets.now c.loop-sheet.sheet-index c.sheet-item.result (length (listed c.deref-in-loop-sheet.result.now)) (omega arith) c.sheet-item.is is in
    let kept : c.loop-sheet.left + length (sheeted (take c.loop-sheet.sheet-index c.args.sheets.now)) ≡ c.args.room = c.loop-sheet.invariant in
    let more : c.loop-sheet.left < length (listed c.deref-in-loop-sheet.result.now) = c.in-None.ensures in
    omega (arith, within, kept, more)

pub loop-sheet-preserved : goal.loop-sheet-preserved
loop-sheet-preserved c =
    let is : length (listed c.deref-in-loop-sheet.result.now) ≡ length (sheet_row c.sheet-item.result) = ap (λ pages. length (listed pages)) c.deref-in-loop-sheet.ensures.value ∙ ap (λ (s : Sheet). length (listed s.pages.items)) c.deref.ensures in
    let next : length (sheeted (take (c.loop-sheet.sheet-index + 1) c.args.sheets.now)) ≡ length (sheeted (take c.loop-sheet.sheet-index c.args.sheets.now)) + length (listed c.deref-in-loop-sheet.result.now) =
    parts.counted-next sheet_row sheeted refl (λ s ss. refl) c.args.sheets.now c.loop-sheet.sheet-index c.sheet-item.result (length (listed c.deref-in-loop-sheet.result.now)) (omega arith) c.sheet-item.is is in
    let kept : c.loop-sheet.left + length (sheeted (take c.loop-sheet.sheet-index c.args.sheets.now)) ≡ c.args.room = c.loop-sheet.invariant in
    let rest : c.in-Some.rest + length (listed c.deref-in-loop-sheet.result.now) ≡ c.loop-sheet.left = c.in-Some.ensures in
    omega (arith, next, kept, rest)
