use Rattle.std.proofs.Common.{ap, ◌∙◌, Some, None}
use Rattle.std.specs.Prelude.{option_and_then}
use Rattle.sal_schema.specs.Names.{lookup, name_of_parts, module_names}
use Rattle.sal_schema.proofs.Searched.{lookup-Finds}
use Rattle.sal_schema.proofs.schema.found.Goals as goal

pub returns-in-Some : goal.returns-in-Some
returns-in-Some c = λ table list distinct same apart named.
    let first = lookup-Finds (module_names table) c.args.modules.now (name_of_parts None 0 c.args.module.now) (Some c.in-Some.number) distinct same c.in-Some.ensures in
    lookup-Finds list c.args.named.now (name_of_parts c.args.parent c.in-Some.number c.args.name.now) c.find-in-Some.result apart named c.find-in-Some.ensures
    ∙ ap (option_and_then (λ k. lookup list (name_of_parts c.args.parent k c.args.name.now))) first

pub returns-in-None : goal.returns-in-None
returns-in-None c = λ table list distinct same apart named.
    let first = lookup-Finds (module_names table) c.args.modules.now (name_of_parts None 0 c.args.module.now) None distinct same c.in-None.ensures in
    ap (option_and_then (λ k. lookup list (name_of_parts c.args.parent k c.args.name.now))) first
