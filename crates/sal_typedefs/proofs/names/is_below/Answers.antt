use Rattle.std.proofs.Common.{sym}
use Rattle.sal_typedefs.specs.Names.{steps_of}
use Rattle.sal_typedefs.specs.Opened.{world}
use Rattle.sal_typedefs.specs.Spots.{site_of}
use Rattle.sal_typedefs.proofs.CircleLists.{no-circle}
use Rattle.sal_typedefs.proofs.names.is_below.Goals as goal

pub returns-in-Some-named : goal.returns-in-Some-named
returns-in-Some-named c e =
    let w = world c.args.scope.now in
    let low = rw c.rank_in.ensures at c.is_lower.ensures e in
    no-circle w (steps_of w.modules) (site_of c.args.spot.now) c.in-Some.typedef.now c.in-Some-named.one.now c.requires.other c.in-Some-named.ensures (sym c.in-Some.ensures) low.0 low.1
