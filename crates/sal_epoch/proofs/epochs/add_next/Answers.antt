-- One device more.
use Rattle.std.proofs.Common.{[], ◌∷◌, ◌++◌, ap, sym, subst, ◌∙◌}
use Rattle.std.proofs.lemmas.List.{map-append}
use Rattle.sal_history.specs.World.{Domain}
use Rattle.sal_hub.specs.Openings.{AreClosedDevices, domain_of, world_of}
use Rattle.sal_epoch.proofs.Next.{closed-more}
use Rattle.sal_epoch.proofs.epochs.add_next.Goals as goal

pub returns-clause-next : goal.returns-clause-next
returns-clause-next c = λ rules.
    ap (world_of rules) c.in_ok-append.ensures ∙ map-append (domain_of rules) c.args.devices.now.items (c.in_ok-device.device ∷ [])
    ∙ ap (λ (d : Domain). world_of rules c.args.devices.now.items ++ d ∷ []) (c.in_ok-device.ensures.next rules)

pub returns-clause-closed : goal.returns-clause-closed
returns-clause-closed c = λ all. subst AreClosedDevices (sym c.in_ok-append.ensures) (closed-more c.args.devices.now.items c.in_ok-device.device all c.in_ok-device.ensures.closed)
