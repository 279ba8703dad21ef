use Rattle.std.proofs.Common.{◌≡◌, ◌∙◌, [], ◌∷◌, refl, sym, ap}
use Rattle.sal_module.specs.declared.keyword.Keyword.TheVariants as word
use Rattle.sal_module.specs.Statements.{is_named, subs_of}
use Rattle.sal_typedefs.specs.Scopes.{within}
use Rattle.sal_typedefs.specs.Spots.{site_in, site_of}
use Rattle.sal_typedefs.proofs.WalkLists.{first-some}
use Rattle.sal_typedefs.proofs.opening.settle_typedef.Goals as goal

pub returns : goal.returns
returns c =
    let scope = c.args.scope.now in
    let home = site_in scope.number scope.around.items c.args.typedef.now in
    let some = rw c.items.ensures at c.in-Some.ensures in
    let at-home = rw c.as_slice.ensures.value at c.new-home.ensures.value in
    let spot = c.in_ok-spot.ensures.value ∙ ap (λ site. within site c.in-Some.sub.now) at-home in
    c.above.ensures home (site_of c.in_ok-spot.spot) [] refl refl (sym (ap (λ site. site ∷ []) spot ∙ first-some (within home) (is_named word.Type) (subs_of c.args.typedef.now) c.in-Some.sub.now some)) c.in_ok-found.ensures
