-- The newest trees have no fault.
use Rattle.std.proofs.Common.{ap, ◌∙◌}
use Rattle.sal_hub.specs.HubHistory.{HubHistory}
use Rattle.sal_hub.specs.Openings.{fault_of}
use Rattle.sal_epoch.proofs.Next.{hubs-stateless, next-fault-of, no-fault-of}
use Rattle.sal_epoch.proofs.epochs.next_hub.Goals as goal

pub returns-clause-sound : goal.returns-clause-sound
returns-clause-sound c none =
    ap (λ (known : HubHistory). fault_of known.world) c.next_epoch.ensures.next ∙ next-fault-of c.args.rules c.args.hub
    ∙ no-fault-of c.args.rules c.args.hub c.keeps_the_rules.ensures (hubs-stateless c.args.hub c.stays_lawful.ensures.sound c.stays_lawful.ensures.lawful none)
