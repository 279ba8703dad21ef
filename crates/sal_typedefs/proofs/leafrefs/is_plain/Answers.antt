use Rattle.sal_typedefs.specs.Names.{steps_of, under}
use Rattle.sal_typedefs.specs.Opened.{world}
use Rattle.sal_typedefs.specs.Spots.{site_of}
use Rattle.sal_typedefs.proofs.CircleLists.{none-plain}
use Rattle.sal_typedefs.proofs.leafrefs.is_plain.Goals as goal

pub returns-in-Some : goal.returns-in-Some
returns-in-Some c e =
    let w = world c.args.scope.now in
    let is = rw c.in-Some.is at c.in_ok-settle.ensures in
    none-plain (under (steps_of w.modules) w.modules (site_of c.args.spot.now)) (is.plain e (steps_of w.modules))
