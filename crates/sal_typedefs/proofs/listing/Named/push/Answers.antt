use Rattle.std.proofs.Common.{◌≡◌, ◌∙◌, List, length, sym, ap, subst, arith}
use Rattle.std.proofs.lemmas.Grind.{common_steps}
use Rattle.sal_module.specs.Keywords.{same}
use Rattle.sal_typedefs.specs.declared.entry.Entry.{Entry}
use Rattle.sal_typedefs.specs.Blocks.{get_by_name, with_first}
use Rattle.sal_typedefs.specs.Listings.{AreNames}
use Rattle.sal_typedefs.proofs.Listings.{names-put}
use Rattle.sal_typedefs.proofs.listing.Named.push.Goals as goal

pub returns-clause-names : goal.returns-clause-names
returns-clause-names c =
    let old = c.args.self.now in
    let e = c.args.entry in
    let count : c.len.result ≡ length old.entries.items = grind (arith, common_steps) in
    subst (λ (es : List Entry). AreNames es c.define.new.map) (sym c.in_ok-append.ensures)
    (names-put old.entries.items e old.names c.define.new.map c.requires.names
    (λ q. c.in_ok-define.ensures q ∙ ap (λ name. with_first (get_by_name old.names q) (same name q) c.len.result) (sym c.requires.named) ∙ ap (with_first (get_by_name old.names q) (same e.name q)) count))
