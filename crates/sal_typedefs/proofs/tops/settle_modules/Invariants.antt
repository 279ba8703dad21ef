-- Those so far.
use Rattle.sal_typedefs.specs.Opened.{world_of}
use Rattle.sal_typedefs.specs.Settled.{AreTops}
use Rattle.sal_typedefs.proofs.tops.settle_modules.Given as goal

abbrev pub invariant-loop-m : goal.invariant-loop-m
invariant-loop-m l = AreTops (world_of l.means) l.kept.items
