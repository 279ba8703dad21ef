use Rattle.std.proofs.Common.{[], ◌∷◌, ◌+◌, length, ap, sym, ◌∙◌}
use Rattle.std.specs.Prelude.{decimal}
use Rattle.std.proofs.lemmas.List.{length-append}
use Rattle.sal_script.specs.Script.{or_bad}
use Rattle.sal_script.proofs.Each.{each_fails, each_done}
use Rattle.sal_script.proofs.Readers.{fault_at}
use Rattle.sal_owner_script.proofs.Reading.{step_at, step_next, steps_from-each}
use Rattle.sal_owner_script.proofs.read.steps_of.Goals as goal

pub returns-in-None-clause-steps : goal.returns-in-None-clause-steps
returns-in-None-clause-steps c =
    let l = c.loop-number in
    let place = decimal l.number in
    let fails = ap (or_bad place) (sym c.in_ok-step.ensures ∙ c.in-None.is) in
    fault_at place _ _ c.bad_step.ensures
    (steps_from-each 0 c.args.list.now
    ∙ each_fails step_at l.steps.items l.number c.args.list.now _ c.index-list-number.result place c.loop-number-test.true c.index-list-number.is fails l.invariant.read)

pub returns-clause-steps : goal.returns-clause-steps
returns-clause-steps c =
    let l = c.loop-number in
    steps_from-each 0 c.args.list.now ∙ each_done step_at l.steps.items l.number c.args.list.now _ c.loop-number-test.false l.invariant.read

pub loop-number-preserved : goal.loop-number-preserved
loop-number-preserved c =
    let l = c.loop-number in
    let more = c.in_ok-push-in-Some.ensures.items in
    record {
      read = step_next l.number l.steps.items c.push.new.self.items c.in-Some.step c.args.list.now c.index-list-number.result _ more c.loop-number-test.true c.index-list-number.is (sym c.in_ok-step.ensures ∙ c.in-Some.is) l.invariant.read;
      count = ap length more ∙ length-append l.steps.items (c.in-Some.step ∷ []) ∙ ap (λ n. n + 1) l.invariant.count;
    }
