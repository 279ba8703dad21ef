use Rattle.std.proofs.Common.{◌≡◌, ◌++◌, take}
use Rattle.std.specs.List.{flat_map}
use Rattle.sal_shapes.specs.Shapes.{domain_shapes}
use Rattle.sal_shapes.proofs.drawing.Drawing.columns.Given as goal

abbrev pub invariant-loop-domain : goal.invariant-loop-domain
invariant-loop-domain l = l.out.items ≡ l.initial.out.items ++ flat_map (domain_shapes l.self) (take l.domain-index l.self.frame.domains)
