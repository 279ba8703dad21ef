use Rattle.std.proofs.Common.{◌∙◌, ap}
use Rattle.sal_typedefs.specs.declared.judgement.Judgement.{Judgement}
use Rattle.sal_typedefs.specs.Names.{steps_of}
use Rattle.sal_typedefs.proofs.evaluate.fault_in.Goals as goal

pub returns : goal.returns
returns c w site is = ap (λ (j : Judgement). j.fault) c.value.ensures ∙ (is.judged (steps_of w.modules) is.few).fault
