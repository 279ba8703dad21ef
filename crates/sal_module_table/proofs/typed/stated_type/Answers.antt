use Rattle.std.proofs.Common.{◌∙◌, sym, ap, option_map}
use Rattle.std.specs.Option.{option_copied}
use Rattle.sal_typedefs.specs.Spots.{site_in}
use Rattle.sal_module_table.specs.Leafrefs.{stated_type}
use Rattle.sal_module_table.proofs.Kept.{type-good, type-bad}
use Rattle.sal_module_table.proofs.typed.stated_type.Goals as goal

pub returns-in-None : goal.returns-in-None
returns-in-None c =
    let scope = c.args.scope.now in
    let fault = c.in_ok-fault.ensures.fault in
    let is = c.in-None.is in
    type-good scope.typedefs.now (site_in scope.number scope.around.items c.in-Some.stmt.now) c.in_ok-fault.fault c.in_ok-fault.ty fault is (c.in_ok-fault.ensures.meant is)
    ∙ ap (λ s. stated_type scope.typedefs.now (option_map (site_in scope.number scope.around.items) (option_copied s))) (sym c.in-Some.is)

pub returns-in-Some-fault : goal.returns-in-Some-fault
returns-in-Some-fault c =
    let scope = c.args.scope.now in
    c.empty_type-in-Some-fault.ensures
    ∙ type-bad scope.typedefs.now (site_in scope.number scope.around.items c.in-Some.stmt.now) c.in_ok-fault.fault c.in-Some-fault._found c.in_ok-fault.ensures.fault c.in-Some-fault.is
    ∙ ap (λ s. stated_type scope.typedefs.now (option_map (site_in scope.number scope.around.items) (option_copied s))) (sym c.in-Some.is)
