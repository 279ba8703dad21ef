use Rattle.std.proofs.Common.{◌≡◌, drop}
use Rattle.sal_shapes.specs.Shapes.{is_drawn}
use Rattle.sal_shapes.proofs.legend.is_drawn.Given as goal

abbrev pub invariant-loop-shape : goal.invariant-loop-shape
invariant-loop-shape l = is_drawn l.shapes l.key ≡ is_drawn (drop l.shape-index l.shapes) l.key
