use Rattle.std.proofs.Common.{None, ◌∙◌, sym, ap}
use Rattle.sal_module.specs.Faults.{least}
use Rattle.sal_typedefs.specs.Names.{steps_of}
use Rattle.sal_typedefs.specs.Spots.{site_in}
use Rattle.sal_typedefs.proofs.WholeTypes.{whole-faults, whole-type}
use Rattle.sal_typedefs.proofs.evaluate.judge_at.Goals as goal

pub returns-in_ok-ty-in-Some-clause-fault : goal.returns-in_ok-ty-in-Some-clause-fault
returns-in_ok-ty-in-Some-clause-fault c =
    let a = c.args in
    let site = site_in a.scope.now.number a.scope.now.around.items a.stmt.now in
    sym (ap (least None) (whole-faults a.scope.now.typedefs.now site c.in-Some.builtin c.in-Some.ensures.names (steps_of a.scope.now.typedefs.now) c.in-Some.ensures.is))

pub returns-in_ok-ty-in-Some-clause-meant : goal.returns-in_ok-ty-in-Some-clause-meant
returns-in_ok-ty-in-Some-clause-meant c none =
    let a = c.args in
    let site = site_in a.scope.now.number a.scope.now.around.items a.stmt.now in
    c.in_ok-ty-in-Some.ensures.value ∙ sym (whole-type a.scope.now.typedefs.now site c.in-Some.builtin c.in-Some.ensures.names (steps_of a.scope.now.typedefs.now) c.in-Some.ensures.is)

pub judge_spot-requires-clause-outer : goal.judge_spot-requires-clause-outer
judge_spot-requires-clause-outer c = c.new-spot.ensures.outer ∙ c.as_slice-around.ensures.value

pub returns-in-None-clause-fault : goal.returns-in-None-clause-fault
returns-in-None-clause-fault c = rw (c.new-spot.ensures.value, c.as_slice-around.ensures.value) at c.judge_spot.ensures.fault

pub returns-in-None-clause-meant : goal.returns-in-None-clause-meant
returns-in-None-clause-meant c = rw (c.new-spot.ensures.value, c.as_slice-around.ensures.value) at c.judge_spot.ensures.meant
