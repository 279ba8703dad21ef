use Rattle.std.proofs.Common.{◌≡◌, ◌≤◌, drop, false}
use Rattle.sal_shapes.specs.Labels.{path_end}
use Rattle.sal_shapes.proofs.labels.path_end.Given as goal

abbrev pub invariant-loop-i : goal.invariant-loop-i
invariant-loop-i l = (path_end l.most false 0 l.path l.path ≡ path_end l.most l.quoted l.p (drop l.last l.path) (drop l.i l.path)) × (l.last ≤ l.i)
