use Rattle.std.proofs.Common.{◌≡◌, [], ◌∷◌, subst, sym}
use Rattle.sal_typedefs.specs.declared.kept.Settled.{Settled}
use Rattle.sal_typedefs.specs.Names.{types_in}
use Rattle.sal_typedefs.specs.Settled.{IsSettled}
use Rattle.sal_typedefs.proofs.SettledLists.{typedef-parts}
use Rattle.sal_typedefs.proofs.scope.parts_of.Goals as goal

pub returns-clause-parts : goal.returns-clause-parts
returns-clause-parts c w typedef is =
    typedef-parts w (types_in typedef) c.args.one.now _ is.type
    (λ site one. c.raised.ensures.parts w (site ∷ []) (c.in_ok-parts.ensures w [] site (c.new.ensures.none w) (subst (λ (s : Settled). IsSettled w site s) (sym c.in_ok-copy.ensures) one)))
