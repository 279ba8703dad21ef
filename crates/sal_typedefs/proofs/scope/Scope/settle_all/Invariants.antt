-- The blocks stay.
use Rattle.sal_typedefs.specs.Opened.{IsStill}
use Rattle.sal_typedefs.proofs.scope.Scope.settle_all.Given as goal

abbrev pub invariant-loop-k : goal.invariant-loop-k
invariant-loop-k l = IsStill l.initial.self l.self
