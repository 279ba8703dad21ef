use Rattle.std.proofs.Common.{take}
use Rattle.sal_mod.specs.Firsts.{AreFirst}
use Rattle.sal_mod.proofs.covers.of_all.Given as goal

abbrev pub invariant-loop-place : goal.invariant-loop-place
invariant-loop-place l = AreFirst (take l.place l.ops) l.covers
