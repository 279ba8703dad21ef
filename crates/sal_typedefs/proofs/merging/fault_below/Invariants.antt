-- The least fault in the first statements.
use Rattle.std.proofs.Common.{◌≡◌, List, None, take}
use Rattle.std.specs.List.{flat_map}
use Rattle.sal_module.specs.Faults.{least}
use Rattle.sal_typedefs.specs.Types.{Judged}
use Rattle.sal_typedefs.specs.Judgements.{AreJudged}
use Rattle.sal_typedefs.proofs.merging.fault_below.Given as goal

abbrev pub invariant-loop-judgement : goal.invariant-loop-judgement
invariant-loop-judgement l =
    (judged : List Judged) → AreJudged l.below judged → l.best ≡ least None (flat_map (λ (j : Judged). j.faults) (take l.judgement-index judged))
