-- The newest trees are the openings.
use Rattle.std.proofs.Common.{◌≡◌, List, [], length, map, ap, sym, ◌∙◌, subst, arith}
use Rattle.std.proofs.lemmas.List.{length-map}
use Rattle.sal_history.specs.World.{Domain, OneIsUpgraded}
use Rattle.sal_history_laws.specs.Logs.{AreSound}
use Rattle.sal_hub.specs.Current.{known_of}
use Rattle.sal_hub.specs.Epochs.{OpensAtTheNewest, begun_view, next_hub}
use Rattle.sal_hub.specs.HubHistory.{HubHistory}
use Rattle.sal_hub.specs.Opened.{AreFirst}
use Rattle.sal_hub.specs.PipelineView.{opened_as, queue_of, shown, world_in}
use Rattle.sal_hub.proofs.NextEpoch.{next-first, next-only, next-sound, next-worlds, opens-at-the-newest}
use Rattle.sal_hub.proofs.hub.Hub.next_epoch.Goals as goal

pub begun-domains-requires : goal.begun-domains-requires
begun-domains-requires c = c.into_parts-pipeline.ensures.kept.kept

pub hub_of-requires-clause-first : goal.hub_of-requires-clause-first
hub_of-requires-clause-first c =
    subst AreFirst (sym c.begun-domains.ensures.begun) (next-first c.args.rules c.into_parts-pipeline.result.0.log c.into_parts-pipeline.result.0.marks (queue_of c.into_parts-pipeline.result.1) c.into_parts-pipeline.ensures.kept.current)

pub hub_of-requires-clause-sound : goal.hub_of-requires-clause-sound
hub_of-requires-clause-sound c =
    subst AreSound (ap world_in (sym c.begun-domains.ensures.begun)) (next-sound c.args.rules c.into_parts-pipeline.result.0.log c.into_parts-pipeline.result.0.marks (queue_of c.into_parts-pipeline.result.1) c.into_parts-pipeline.ensures.kept.current)

pub hub_of-requires-clause-only : goal.hub_of-requires-clause-only
hub_of-requires-clause-only c =
    subst OneIsUpgraded (ap world_in (sym c.begun-domains.ensures.begun)) (next-only c.args.rules c.into_parts-pipeline.result.0.log c.into_parts-pipeline.result.0.marks (queue_of c.into_parts-pipeline.result.1) c.into_parts-pipeline.ensures.kept.current)

pub hub_of-requires-clause-few : goal.hub_of-requires-clause-few
hub_of-requires-clause-few c =
    let p = c.into_parts-pipeline.result.1 in
    let new : length (map shown c.begun-domains.result.items) ≡ length (map shown p.domains.items) = ap length c.begun-domains.ensures.begun ∙ length-map (map shown p.domains.items) (begun_view c.args.rules) in
    let long : length c.begun-domains.result.items ≡ length c.args.self.world =
    sym (length-map c.begun-domains.result.items shown) ∙ new ∙ sym (length-map (queue_of p).domains opened_as) ∙ ap (λ (known : HubHistory). length known.world) c.into_parts-pipeline.ensures.known in
    omega (arith, long, c.requires)

pub returns : goal.returns
returns c =
    let p = c.into_parts-pipeline.result.1 in
    let journal = c.into_parts-pipeline.result.0 in
    let next : c.hub_of.result ≡ next_hub c.args.rules (known_of journal p) =
    c.hub_of.ensures
    ∙ (λ i. let known : HubHistory = record { world = (ap world_in c.begun-domains.ensures.begun ∙ next-worlds c.args.rules journal.log journal.marks (queue_of p) c.into_parts-pipeline.ensures.kept.current) i; log = [] } in known) in
    let same : c.hub_of.result ≡ next_hub c.args.rules c.args.self = next ∙ ap (next_hub c.args.rules) c.into_parts-pipeline.ensures.known in
    record {
      next = same;
      leader = subst (λ (w : List Domain). OpensAtTheNewest c.args.self w) (sym (ap (λ (known : HubHistory). known.world) same)) (opens-at-the-newest c.args.rules c.args.self);
    }
