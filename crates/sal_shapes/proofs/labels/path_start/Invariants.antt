use Rattle.std.proofs.Common.{◌≡◌, ◌+◌, drop}
use Rattle.sal_shapes.specs.Labels.{path_from}
use Rattle.sal_shapes.proofs.labels.path_start.Given as goal

abbrev pub invariant-loop-i : goal.invariant-loop-i
invariant-loop-i l = path_from 0 0 l.text ≡ l.i + path_from l.p l.q (drop l.i l.text)
