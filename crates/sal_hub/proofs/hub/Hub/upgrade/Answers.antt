-- The invariants hold over the new log.
use Rattle.std.proofs.Common.{◌≤◌, refl, sym, subst}
use Rattle.sal_history.specs.declared.call.Call.TheVariants.{Upgrade}
use Rattle.sal_history.specs.declared.reply.Reply.TheVariants.{Accepted}
use Rattle.sal_hub.proofs.Wholes.{whole_called}
use Rattle.sal_hub.specs.Current.{known_of}
use Rattle.sal_hub.specs.HubHistory.{HubHistory, entry_of}
use Rattle.sal_hub.specs.Upgrades.{upgrades_of}
use Rattle.sal_hub.proofs.hub.Hub.upgrade.Goals as goal

pub upgrade-requires-clause-high : goal.upgrade-requires-clause-high
upgrade-requires-clause-high c = subst (λ (k : HubHistory). c.args.version ≤ upgrades_of k.world) (sym c.self.view_is) c.requires.high

pub invariant_of-self : goal.invariant_of-self
invariant_of-self c =
    let j = c.self.inside.journal in
    let p = c.self.inside.pipeline in
    whole_called j c.upgrade.new.journal p c.upgrade.new.pipeline c.self.inside.chains c.self.inside.marks c.self.inside.listeners c.self.inside.services c.self.invariant c.upgrade.ensures.kept (entry_of (known_of j p) c.args.client (Upgrade c.args.version)) (λ m. refl) (λ u. Accepted) c.upgrade.result refl refl c.upgrade.ensures.answer
    (λ r. refl) (λ r id. refl) (λ r id. refl) (λ r. refl)
