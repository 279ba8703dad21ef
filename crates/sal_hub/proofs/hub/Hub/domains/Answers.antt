-- The domains are the log's.
use Rattle.std.proofs.Common.{List, sym, subst}
use Rattle.sal_commit.specs.declared.domain.Domain.{Domain}
use Rattle.sal_hub.specs.Domains.{AreDomains}
use Rattle.sal_hub.specs.HubHistory.{HubHistory}
use Rattle.sal_hub.proofs.Serving.{domains_are}
use Rattle.sal_hub.proofs.hub.Hub.domains.Goals as goal

pub returns : goal.returns
returns c =
    subst (λ (ds : List Domain). AreDomains c.args.self.now ds) (sym c.deref.ensures.value)
    (subst (λ (known : HubHistory). AreDomains known c.self.inside.pipeline.domains.items) c.self.view_is (domains_are c.self.inside.journal c.self.inside.pipeline c.self.invariant.kept))
