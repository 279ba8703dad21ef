use Rattle.std.proofs.Common.{◌≡◌, take}
use Rattle.std.specs.List.{fold}
use Rattle.sal_shapes.specs.Shapes.{longer}
use Rattle.sal_shapes.proofs.frame.longest.Given as goal

abbrev pub invariant-loop-row : goal.invariant-loop-row
invariant-loop-row l = l.most ≡ fold longer 8 (take l.row-index l.rows)
