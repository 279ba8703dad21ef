use Rattle.sal_typedefs.specs.Opened.{world}
use Rattle.sal_typedefs.specs.Spots.{site_of}
use Rattle.sal_typedefs.proofs.evaluate.fault_of_spot.Goals as goal

pub returns-in-Some : goal.returns-in-Some
returns-in-Some c =
    let is = rw c.in-Some.is at c.in_ok-settle.ensures in
    c.fault_in.ensures (world c.args.scope.now) (site_of c.args.spot) is
