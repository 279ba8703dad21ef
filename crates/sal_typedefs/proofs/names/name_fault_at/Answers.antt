use Rattle.std.proofs.Common.{◌∙◌, None, sym, ap}
use Rattle.sal_module.specs.Faults.{least}
use Rattle.sal_typedefs.specs.Names.{steps_of}
use Rattle.sal_typedefs.specs.Spots.{site_in}
use Rattle.sal_typedefs.proofs.WholeTypes.{lone-names}
use Rattle.sal_typedefs.proofs.names.name_fault_at.Goals as goal

pub returns-in-Some : goal.returns-in-Some
returns-in-Some c =
    let a = c.args in
    sym (ap (least None) (lone-names a.scope.now.typedefs.now (site_in a.scope.now.number a.scope.now.around.items a.stmt.now) c.in-Some._builtin c.in-Some.ensures (steps_of a.scope.now.typedefs.now)))

pub with_names-requires-clause-outer : goal.with_names-requires-clause-outer
with_names-requires-clause-outer c = c.new-spot.ensures.outer ∙ c.as_slice-around.ensures.value
