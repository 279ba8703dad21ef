use Rattle.std.proofs.Common.{◌≡◌, ◌++◌, drop}
use Rattle.sal_shapes.specs.Svg.{escaped_behind}
use Rattle.sal_shapes.proofs.pieces.push_escaped.Given as goal

abbrev pub invariant-loop-b : goal.invariant-loop-b
invariant-loop-b l = l.out.items ++ escaped_behind l.p l.q (drop l.b-index l.text) ≡ l.initial.out.items ++ escaped_behind 0 0 l.text
