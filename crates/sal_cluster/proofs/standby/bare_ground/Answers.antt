-- The first fault of the script, or its clients, or its order.
use Rattle.sal_prepare.proofs.Each.{comes_err}
use Rattle.sal_cluster.specs.StandBys.{grounded, seen}
use Rattle.sal_cluster.proofs.Bare.{bare_bad, both, ground_bad}
use Rattle.sal_cluster.proofs.standby.bare_ground.Goals as goal

pub returns-in_err-ground : goal.returns-in_err-ground
returns-in_err-ground c =
    let bytes = c.args.script.now in
    let e = c.in_err-ground.field-0.0 in
    comes_err seen (grounded bytes) _ e c.from_residual.ensures.1 (ground_bad bytes e c.in_err-ground.ensures)

pub returns-in_err-bare : goal.returns-in_err-bare
returns-in_err-bare c =
    let bytes = c.args.script.now in
    let e = c.in_err-bare.field-0.0 in
    comes_err seen (grounded bytes) _ e c.from_residual-in_err-bare.ensures.1 (bare_bad bytes (seen c.in_ok-ground.ground) e c.in_ok-ground.ensures c.in_err-bare.ensures)

pub returns : goal.returns
returns c = both c.args.script.now (seen c.in_ok-ground.ground) c.in_ok-ground.ensures c.in_ok-bare.ensures
