use Rattle.std.proofs.Common.{option_map, ap, sym, ◌∙◌}
use Rattle.sal_script.specs.Moves.{moves_of, move_of}
use Rattle.sal_script.specs.Script.{or_bad, step_place}
use Rattle.sal_script.proofs.Each.{each_fails, each_done}
use Rattle.sal_script.proofs.Readers.{step_at, step_next, steps_from-each, fault_at}
use Rattle.sal_script.proofs.read.steps_of.Goals as goal

pub returns-in-None : goal.returns-in-None
returns-in-None c =
    let l = c.loop-number in
    let place = step_place c.args.client l.number in
    let fails = ap (or_bad place) (sym c.in_ok-step.ensures ∙ ap (option_map move_of) c.in-None.is) in
    fault_at place _ _ c.bad_step.ensures
    (steps_from-each c.args.client 0 c.args.program.now
    ∙ each_fails (step_at c.args.client) (moves_of l.steps.items) l.number c.args.program.now _ c.index-program-number.result place c.loop-number-test.true c.index-program-number.is fails l.invariant)

pub returns : goal.returns
returns c =
    let l = c.loop-number in
    steps_from-each c.args.client 0 c.args.program.now ∙ each_done (step_at c.args.client) (moves_of l.steps.items) l.number c.args.program.now _ c.loop-number-test.false l.invariant

pub loop-number-preserved : goal.loop-number-preserved
loop-number-preserved c =
    let l = c.loop-number in
    step_next c.args.client l.number l.steps.items c.push.new.self.items c.in-Some.step c.args.program.now c.index-program-number.result _ c.in_ok-push-in-Some.ensures.items c.loop-number-test.true c.index-program-number.is
    (sym c.in_ok-step.ensures ∙ ap (option_map move_of) c.in-Some.is) l.invariant
