use Rattle.std.proofs.Common.{◌≡◌, take}
use Rattle.sal_shapes.specs.Shapes.{acts}
use Rattle.sal_shapes.proofs.drawing.Drawing.acts.Given as goal

abbrev pub invariant-loop-act : goal.invariant-loop-act
invariant-loop-act l = l.self ≡ acts l.here (take l.act-index l.acts) l.initial.self
