use Rattle.std.proofs.Common.{◌∙◌, None, sym, ap}
use Rattle.sal_module.specs.Faults.{least}
use Rattle.sal_typedefs.specs.Names.{steps_of}
use Rattle.sal_typedefs.specs.Spots.{site_in}
use Rattle.sal_typedefs.proofs.WholeTypes.{whole-faults}
use Rattle.sal_typedefs.proofs.evaluate.other_fault_at.Goals as goal

pub returns-in-Some : goal.returns-in-Some
returns-in-Some c =
    let a = c.args in
    let site = site_in a.scope.now.number a.scope.now.around.items a.stmt.now in
    sym (ap (least None) (whole-faults a.scope.now.typedefs.now site c.in-Some._builtin c.in-Some.ensures.names (steps_of a.scope.now.typedefs.now) c.in-Some.ensures.is))

pub fault_of_spot-requires-clause-outer : goal.fault_of_spot-requires-clause-outer
fault_of_spot-requires-clause-outer c = c.new-spot.ensures.outer ∙ c.as_slice-around.ensures.value

pub returns-in-None : goal.returns-in-None
returns-in-None c = rw (c.new-spot.ensures.value, c.as_slice-around.ensures.value) at c.fault_of_spot.ensures
