use Rattle.std.proofs.Common.{◌≡◌, ◌++◌, drop}
use Rattle.std.specs.List.{flat_map, enumerate_from}
use Rattle.sal_shapes.specs.Shapes.{lane_shapes, row_y}
use Rattle.sal_shapes.proofs.drawing.Drawing.lanes.Given as goal

abbrev pub invariant-loop-lane : goal.invariant-loop-lane
invariant-loop-lane l =
    l.out.items ++ flat_map (lane_shapes l.self.frame.width (row_y l.self.rows)) (enumerate_from l.lane (drop l.lane l.names)) ≡ l.initial.out.items ++ flat_map (lane_shapes l.self.frame.width (row_y l.self.rows)) (enumerate_from 0 l.names)
