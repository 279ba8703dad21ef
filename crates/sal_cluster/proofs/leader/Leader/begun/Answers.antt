-- Everything but the number is that of the next broker.
use Rattle.std.proofs.Common.{ap, sym, ◌∙◌, subst}
use Rattle.sal_hub.specs.Epochs.{OpensAtTheNewest, next_hub}
use Rattle.sal_hub.specs.HubHistory.{HubHistory}
use Rattle.sal_script.specs.Tables.{tables_of, versions_of}
use Rattle.sal_cluster.specs.Leaders.{version_of}
use Rattle.sal_cluster.proofs.leader.Leader.begun.Goals as goal

pub begun_anew-broker-requires-clause-schemas : goal.begun_anew-broker-requires-clause-schemas
begun_anew-broker-requires-clause-schemas c = c.into_hub.ensures.schemas ∙ ap (λ (h : HubHistory). tables_of h.world) (sym c.into_hub.ensures.hub)

pub begun_anew-broker-requires-clause-readers : goal.begun_anew-broker-requires-clause-readers
begun_anew-broker-requires-clause-readers c = c.into_hub.ensures.readers ∙ ap (λ (h : HubHistory). versions_of h.world) (sym c.into_hub.ensures.hub)

pub begun_anew-broker-requires-clause-past : goal.begun_anew-broker-requires-clause-past
begun_anew-broker-requires-clause-past c = c.past-past.ensures.version ∙ ap version_of (sym c.into_hub.ensures.hub)

pub returns : goal.returns
returns c =
    let same = c.into_hub.ensures.hub in
    record {
      hub = c.begun_anew-broker.ensures.hub ∙ (λ i. next_hub (c.past-past.ensures.rules i) (same i));
      newest = subst (λ (h : HubHistory). OpensAtTheNewest h c.begun_anew-broker.result.hub.world) same c.begun_anew-broker.ensures.newest;
      bases = c.moved_on-bases.ensures;
      version = c.present-version.ensures;
      reads = c.begun_anew-broker.ensures.reads ∙ c.into_hub.ensures.reads;
      begun = c.begun_anew-broker.ensures.begun;
    }
