-- The first types.
use Rattle.std.proofs.Common.{◌≡◌, take, map}
use Rattle.sal_typedefs.specs.declared.judgement.Judgement.{Judgement}
use Rattle.sal_typedefs.proofs.basis.types_of.Given as goal

abbrev pub invariant-loop-judgement : goal.invariant-loop-judgement
invariant-loop-judgement l = l.types.items ≡ map (λ (d : Judgement). d.ty) (take l.judgement-index l.below)
