use Rattle.std.proofs.Common.{◌∙◌, ◌≤◌, None, length, ap, arith}
use Rattle.std.proofs.lemmas.Grind.{common_steps}
use Rattle.std.proofs.lemmas.List.{take_all}
use Rattle.std.specs.Prelude.{is_some}
use Rattle.sal_module.specs.Faults.{least}
use Rattle.sal_typedefs.specs.declared.judgement.Judgement.{Judgement}
use Rattle.sal_typedefs.specs.Judgements.{merged}
use Rattle.sal_typedefs.proofs.LeastLists.{all_faults, fault-more, as-many, any-faulty}
use Rattle.sal_typedefs.proofs.merging.fault_below.Goals as goal

pub loop-judgement-preserved : goal.loop-judgement-preserved
loop-judgement-preserved c =
    fault-more c.args.below.now c.loop-judgement.judgement-index c.judgement-item.result c.loop-judgement.best c.merged-best.result c.loop-judgement-test.true c.judgement-item.is
    c.loop-judgement.invariant (c.merged-best.ensures ∙ ap (λ (d : Judgement). merged c.loop-judgement.best d.fault) c.value.ensures)

pub returns-clause-least : goal.returns-clause-least
returns-clause-least c judged are =
    let past : length judged ≤ c.loop-judgement.judgement-index = grind (arith, common_steps, as-many c.args.below.now judged are) in
    c.loop-judgement.invariant judged are ∙ ap (λ js. least None (all_faults js)) (take_all c.loop-judgement.judgement-index judged past)

pub returns-clause-some : goal.returns-clause-some
returns-clause-some c judged are =
    let past : length judged ≤ c.loop-judgement.judgement-index = grind (arith, common_steps, as-many c.args.below.now judged are) in
    ap is_some (c.loop-judgement.invariant judged are ∙ ap (λ js. least None (all_faults js)) (take_all c.loop-judgement.judgement-index judged past)) ∙ any-faulty judged
