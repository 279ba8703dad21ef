-- A script with clients is refused, and one with an order.
use Rattle.sal_prepare.proofs.Each.{comes_err}
use Rattle.sal_cluster.specs.StandBys.{bare, seen}
use Rattle.sal_cluster.proofs.Bare.{by_order, clients_bad}
use Rattle.sal_cluster.proofs.standby.bare.Goals as goal

pub returns-in_err-no_clients : goal.returns-in_err-no_clients
returns-in_err-no_clients c =
    let e = c.in_err-no_clients.field-0.0 in
    let found = c.in_err-no_clients.ensures in
    comes_err _ (bare (seen c.args.ground.now)) _ e c.from_residual.ensures.1 (clients_bad (seen c.args.ground.now) e found.0 found.1)

pub returns : goal.returns
returns c = by_order (seen c.args.ground.now) c.no_order.result c.in_ok-no_clients.ensures c.no_order.ensures
