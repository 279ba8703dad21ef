use Rattle.std.proofs.Common.{◌≡◌, List, ◌∷◌, [], sym, subst}
use Rattle.sal_typedefs.specs.Scopes.{Site, typedef_of}
use Rattle.sal_typedefs.specs.Names.{name_of}
use Rattle.sal_typedefs.specs.Settled.{AreParts}
use Rattle.sal_typedefs.specs.Opened.{world}
use Rattle.sal_typedefs.specs.Spots.{site_of}
use Rattle.sal_typedefs.proofs.SettledLists.{target-parts}
use Rattle.sal_typedefs.proofs.CircleLists.{rests-named, low-named}
use Rattle.sal_typedefs.proofs.scope.settle_named.Goals as goal

pub over-requires-clause-parts : goal.over-requires-clause-parts
over-requires-clause-parts c =
    let w = world c.args.scope.now in
    let site = site_of c.args.spot.now in
    let P : List Site → Type 0 = λ sites. AreParts w sites c.in_ok-parts-in-Some.parts in
    subst P (sym (rests-named w.modules site c.requires.other))
    (target-parts w (typedef_of w.modules site (name_of site)) c.in-Some.one.now c.in_ok-parts-in-Some.parts c.in-Some.ensures (λ typedef is. c.in_ok-parts-in-Some.ensures.parts w typedef is))

pub over-requires-clause-low : goal.over-requires-clause-low
over-requires-clause-low c =
    low-named (world c.args.scope.now) c.in_ok-parts-in-Some.parts.rank (site_of c.args.spot.now) c.in-Some.one.now c.requires.other c.in-Some.ensures c.in_ok-parts-in-Some.ensures.rank
