-- A script with clients is refused, and one with an order.
use Rattle.std.proofs.Common.{List, Result, Ok, Err, ◌≡◌, []}
use Rattle.std.specs.Prelude.{codes}
use Rattle.sal_prepare.specs.Scripted.{seen}
use Rattle.sal_prepare.specs.declared.status.Status.{Status}
use Rattle.sal_prepare.proofs.Each.{comes_err}
use Rattle.sal_embed.specs.Opening.{HasNone, IsBareOr, bare}
use Rattle.sal_prepare.specs.declared.scripted.Prepared.{Prepared as CodePrepared}
use Rattle.sal_embed.proofs.Opened.{clients_bad, is_bare, order_bad}
use Rattle.sal_embed.proofs.embedded.bare.Goals as goal

by_order : {X : Type 0} (it : CodePrepared) (result : Result X Status) → (seen it).parts.clients ≡ [] → HasNone (codes "order") (seen it).parts.order result → IsBareOr it result
by_order it (Ok done) none none_too = is_bare (seen it) none none_too
by_order it (Err status) none bad = order_bad (seen it) status none bad.0 bad.1

pub returns-in_err-no_clients : goal.returns-in_err-no_clients
returns-in_err-no_clients c =
    let e = c.in_err-no_clients.field-0.0 in
    let found = c.in_err-no_clients.ensures in
    comes_err _ (bare (seen c.args.it.now)) _ e c.from_residual.ensures.1 (clients_bad (seen c.args.it.now) e found.0 found.1)

pub returns : goal.returns
returns c = by_order c.args.it.now c.no_order.result c.in_ok-no_clients.ensures c.no_order.ensures
