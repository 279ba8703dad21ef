use Rattle.std.proofs.Common.{◌∙◌, pos, ap}
use Rattle.std.specs.Prelude.{Option, unwrap_or}
use Rattle.sal_typedefs.specs.declared.entry.Entry.{Entry}
use Rattle.sal_typedefs.proofs.Listings.{name-found}
use Rattle.sal_typedefs.proofs.numbering.chosen_entry.Goals as goal

pub returns-clause-name : goal.returns-clause-name
returns-clause-name c =
    let name = c.argument_of-name.result.now in
    let other : Entry = record { name = name; number = pos 0 } in
    ap (λ (e : Entry). e.name) c.in_ok-entry_or.ensures ∙ ap (λ (found : Option Entry). (unwrap_or found other).name) c.named-found.ensures
    ∙ name-found name c.args.from.now ∙ c.argument_of-name.ensures
