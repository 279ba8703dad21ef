use Rattle.std.proofs.Common.{◌∙◌, List, get_or, ap, subst}
use Rattle.sal_module_table.specs.declared.typed.Place.{Place}
use Rattle.sal_module_table.specs.Typed.{AreFirst, Own, owns, places_of, found_for}
use Rattle.sal_module_table.proofs.Kept.{each-found}
use Rattle.sal_module_table.proofs.typed.node_types.Goals as goal

pub returns : goal.returns
returns c =
    let stmts = c.args.modules.now in
    let forest = c.args.forest.now in
    let wanted = c.in_ok-wanted.wanted in
    let P : List Place → Type 0 = λ places. AreFirst places wanted in
    let Q : List Place → Type 0 = λ places. AreFirst places c.in_ok-places.places in
    let are = subst P (c.deref.ensures.value ∙ c.in_ok-node_places.ensures) c.in_ok-wanted.ensures in
    let own = c.in_ok-own_places.ensures in
    record {
      places = subst Q (c.deref-3.ensures.value ∙ own ∙ ap (λ all. places_of (owns all)) c.deref-2.ensures.value) c.in_ok-places.ensures;
      each = λ i d inside. ap (λ (all : List Own). found_for all (get_or forest i d)) c.in_ok-all.ensures ∙ each-found stmts forest wanted are i d inside;
    }
