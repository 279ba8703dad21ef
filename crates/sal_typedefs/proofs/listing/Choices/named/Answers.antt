use Rattle.std.proofs.Common.{◌∙◌, List, ap}
use Rattle.sal_module.specs.Keywords.{same}
use Rattle.sal_typedefs.specs.declared.entry.Entry.{Entry}
use Rattle.sal_typedefs.specs.Entries.{named}
use Rattle.sal_typedefs.proofs.BlockLists.{find-none, find-some}
use Rattle.sal_typedefs.proofs.listing.Choices.named.Goals as goal

pub returns-in-None : goal.returns-in-None
returns-in-None c =
    let name = c.args.name.now in
    let entries = c.self.inside.entries.now in
    find-none (λ (e : Entry). same e.name name) entries (c.in-None.ensures.value ∙ c.self.invariant name) ∙ ap (λ (es : List Entry). named name es) c.self.view_is

pub returns-in-Some : goal.returns-in-Some
returns-in-Some c =
    let name = c.args.name.now in
    let entries = c.self.inside.entries.now in
    c.entry_at.ensures
    ∙ find-some (λ (e : Entry). same e.name name) entries c.in-Some.k.now (c.in-Some.ensures.value ∙ c.self.invariant name)
    ∙ ap (λ (es : List Entry). named name es) c.self.view_is
