use Rattle.std.proofs.Common.{◌≡◌, ◌+◌, ◌≤◌, ap, arith, length}
use Rattle.sal_shapes.specs.Shapes.{Drawn}
use Rattle.sal_shapes.proofs.drawing.picture_of.Goals as goal

pub picture-requires-clause-rows : goal.picture-requires-clause-rows
picture-requires-clause-rows c =
    let none : c.in_ok-drawing.drawing.rows ≡ 0 = ap (λ (d : Drawn). d.rows) c.in_ok-drawing.ensures in
    let few : c.rows-2.new.self.rows ≤ c.in_ok-drawing.drawing.rows + length c.items-3.result.now = c.in_ok-rows.ensures.few in
    let same = ap length c.items-3.ensures in
    omega (arith, none, few, same, c.requires.rows)
