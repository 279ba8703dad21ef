-- The first texts are read.
use Rattle.std.proofs.Common.{take}
use Rattle.sal.specs.Modules.{AreRead, texts_in}
use Rattle.sal.proofs.modules.statements_of.Given as goal

abbrev pub invariant-loop-module : goal.invariant-loop-module
invariant-loop-module l = AreRead (take l.module (texts_in l.texts)) l.stmts.items
