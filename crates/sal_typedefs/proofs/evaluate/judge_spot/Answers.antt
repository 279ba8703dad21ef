use Rattle.sal_typedefs.specs.Opened.{world}
use Rattle.sal_typedefs.specs.Spots.{site_of}
use Rattle.sal_typedefs.proofs.evaluate.judge_spot.Goals as goal

pub returns-in_ok-found-in-Some-clause-fault : goal.returns-in_ok-found-in-Some-clause-fault
returns-in_ok-found-in-Some-clause-fault c =
    let is = rw c.in-Some.is at c.in_ok-settle.ensures in
    (c.in_ok-found-in-Some.ensures (world c.args.scope.now) (site_of c.args.spot) is).0

pub returns-in_ok-found-in-Some-clause-meant : goal.returns-in_ok-found-in-Some-clause-meant
returns-in_ok-found-in-Some-clause-meant c =
    let is = rw c.in-Some.is at c.in_ok-settle.ensures in
    (c.in_ok-found-in-Some.ensures (world c.args.scope.now) (site_of c.args.spot) is).1
