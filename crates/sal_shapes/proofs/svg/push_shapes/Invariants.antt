use Rattle.std.proofs.Common.{◌≡◌, ◌++◌, take}
use Rattle.std.specs.List.{flat_map}
use Rattle.sal_shapes.specs.Svg.{shape_text}
use Rattle.sal_shapes.proofs.svg.push_shapes.Given as goal

abbrev pub invariant-loop-shape : goal.invariant-loop-shape
invariant-loop-shape l = l.out.items ≡ l.initial.out.items ++ flat_map shape_text (take l.shape-index l.shapes)
