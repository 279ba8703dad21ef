use Rattle.std.proofs.Common.{◌≡◌, ◌+◌, ◌≤◌, ap, sym, ◌∙◌, arith, subst, take}
use Rattle.std.specs.List.{fold}
use Rattle.sal_shapes.specs.declared.scene.Row.{Row}
use Rattle.sal_shapes.specs.Shapes.{Drawn, draw_row}
use Rattle.sal_shapes.proofs.Steps.{fold_more, one_row}
use Rattle.sal_shapes.proofs.drawing.Drawing.rows.Goals as goal

pub loop-row-preserved : goal.loop-row-preserved
loop-row-preserved c =
    let l = c.loop-row in
    let row = c.row-item.result in
    let start = c.args.self.now in
    let e : c.row.new.self ≡ draw_row l.self row = c.in_ok-row.ensures.row in
    let n : c.row.new.self.rows ≤ l.self.rows + 1 = subst (λ (d : Drawn). d.rows ≤ l.self.rows + 1) (sym e) (one_row l.self row) in
    let before : l.self.rows ≤ start.rows + l.row-index = l.invariant.1 in
    (e ∙ ap (λ (d : Drawn). draw_row d row) l.invariant.0 ∙ sym (fold_more draw_row start c.args.rows.now l.row-index row c.loop-row-test.true c.row-item.is), omega (arith, n, before))
