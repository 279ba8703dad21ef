use Rattle.std.proofs.Common.{◌∙◌, ◌∷◌, [], ◌++◌, map, ap}
use Rattle.sal_module.specs.declared.keyword.Keyword.TheVariants as word
use Rattle.sal_module.specs.Statements.{is_named, subs_of}
use Rattle.sal_typedefs.specs.Scopes.{within}
use Rattle.sal_typedefs.specs.Spots.{site_of}
use Rattle.sal_typedefs.proofs.WalkLists.{first-none, first-some}
use Rattle.sal_typedefs.proofs.below.first_type.Goals as goal

pub returns-in-None : goal.returns-in-None
returns-in-None c =
    let stmt = c.args.spot.now.stmt.now in
    let none = rw c.items.ensures at c.in-None.ensures in
    ap (map site_of) c.new-all.ensures.items ∙ first-none (within (site_of c.args.spot.now)) (is_named word.Type) (subs_of stmt) none

pub returns-in_ok-append-in-Some : goal.returns-in_ok-append-in-Some
returns-in_ok-append-in-Some c =
    let stmt = c.args.spot.now.stmt.now in
    let some = rw c.items.ensures at c.in-Some.ensures in
    let items = c.in_ok-append-in-Some.ensures ∙ ap (λ l. l ++ c.in_ok-within-in-Some.field-0 ∷ []) c.new-all.ensures.items in
    ap (map site_of) items ∙ ap (λ s. s ∷ []) c.in_ok-within-in-Some.ensures.value ∙ first-some (within (site_of c.args.spot.now)) (is_named word.Type) (subs_of stmt) c.in-Some.sub.now some
