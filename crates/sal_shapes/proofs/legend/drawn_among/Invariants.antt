use Rattle.std.proofs.Common.{◌≡◌, ◌≤◌, length, take}
use Rattle.sal_shapes.specs.Shapes.{drawn_among}
use Rattle.sal_shapes.proofs.legend.drawn_among.Given as goal

abbrev pub invariant-loop-style : goal.invariant-loop-style
invariant-loop-style l = (l.keys.items ≡ drawn_among l.shapes (take l.style-index l.styles)) × (length l.keys.items ≤ l.style-index)
