-- The invariants hold over the new log.
use Rattle.std.proofs.Common.{refl}
use Rattle.sal_history.specs.declared.call.Call.TheVariants.{Collect}
use Rattle.sal_hub.specs.Routed.{collect_reply}
use Rattle.sal_hub.proofs.Wholes.{whole_routed}
use Rattle.sal_hub.proofs.hub.Hub.collect.Goals as goal

pub invariant_of-self : goal.invariant_of-self
invariant_of-self c =
    let done = c.collect.ensures in
    whole_routed c.self.invariant done.service.kept c.args.client (Collect c.args.id.number) (λ m. refl)
    c.self.inside.services.router (collect_reply c.args.id.rpc) c.collect.result refl refl refl done.service.served done.answer
