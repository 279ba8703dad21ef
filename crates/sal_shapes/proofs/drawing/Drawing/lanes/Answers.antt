use Rattle.std.proofs.Common.{◌≡◌, ◌+◌, ◌++◌, ℕ, List, drop, ap, sym, ◌∙◌}
use Rattle.std.specs.List.{flat_map, enumerate_from}
use Rattle.sal_shapes.specs.declared.scene.Shape.{Shape}
use Rattle.sal_shapes.specs.Shapes.{lane_shapes, row_y}
use Rattle.sal_shapes.proofs.Steps.{numbered_more, numbered_all}
use Rattle.sal_shapes.proofs.drawing.Drawing.lanes.Goals as goal

pub loop-lane-preserved : goal.loop-lane-preserved
loop-lane-preserved c =
    let f = lane_shapes c.args.self.now.frame.width (row_y c.args.self.now.rows) in
    let names = c.args.names.now in
    let i = c.loop-lane.lane in
    let rest = flat_map f (enumerate_from (i + 1) (drop (i + 1) names)) in
    ap (λ (out : List Shape). out ++ rest) c.in_ok-lane.ensures
    ∙ numbered_more f names i c.index-names-lane.result c.loop-lane.out.items c.loop-lane-test.true c.index-names-lane.is
    ∙ c.loop-lane.invariant

pub returns : goal.returns
returns c =
    let f = lane_shapes c.args.self.now.frame.width (row_y c.args.self.now.rows) in
    sym (numbered_all f c.args.names.now c.loop-lane.lane c.loop-lane.out.items c.loop-lane-test.false) ∙ c.loop-lane.invariant
