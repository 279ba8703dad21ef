use Rattle.std.proofs.Common.{◌≡◌, ◌≤◌, ◌+◌, ◌*◌, ◌++◌, drop}
use Rattle.sal_shapes.specs.Shapes.{legend}
use Rattle.sal_shapes.proofs.legend.push_legend.Given as goal

abbrev pub invariant-loop-key : goal.invariant-loop-key
invariant-loop-key l = (l.out.items ++ legend l.y (drop l.key-index l.keys) ≡ l.initial.out.items ++ legend l.top l.keys) × (l.y ≡ l.top + 16 * l.key-index)
