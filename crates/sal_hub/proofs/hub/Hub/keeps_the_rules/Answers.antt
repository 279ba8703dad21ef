-- By the type of each domain.
use Rattle.std.proofs.Common.{◌≡◌, ℕ, ◌<◌, None, length, subst}
use Rattle.sal_types.specs.declared.value.Store.{Store}
use Rattle.sal_rules.specs.Breaches.{breach}
use Rattle.sal_history.specs.History.{history, newest_tree}
use Rattle.sal_history.specs.Versions.{tables_now}
use Rattle.sal_hub.specs.HubHistory.{HubHistory}
use Rattle.sal_hub.proofs.Serving.{unbroken}
use Rattle.sal_hub.proofs.hub.Hub.keeps_the_rules.Goals as goal

pub returns : goal.returns
returns c =
    subst (λ (known : HubHistory). (domain : ℕ) (s : Store) → domain < length known.world → breach (tables_now known.world (history known.world known.log) domain) s (newest_tree known.world known.log domain s) ≡ None) c.self.view_is
    (λ n s there. unbroken c.self.inside.journal c.self.inside.pipeline c.self.invariant.kept n s there)
