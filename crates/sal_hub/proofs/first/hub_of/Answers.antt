-- Without calls the only state is that of the domains.
use Rattle.std.proofs.Common.{arith, ◌≡◌, length, map, ap, sym, ◌∙◌, subst}
use Rattle.std.proofs.lemmas.Grind.{common_steps}
use Rattle.std.proofs.lemmas.List.{length-map}
use Rattle.std.specs.Prelude.{Vec}
use Rattle.std.specs.declared.alloc.Global.{Global}
use Rattle.sal_commit.specs.declared.domain.Domain.{Domain}
use Rattle.sal_history.specs.World.{OneIsUpgraded}
use Rattle.sal_history_laws.specs.Logs.{AreSound}
use Rattle.sal_hub.specs.HubHistory.{HubHistory}
use Rattle.sal_hub.specs.Journals.{Noted}
use Rattle.sal_hub.specs.Opened.{AreFirst}
use Rattle.sal_hub.specs.PipelineView.{AllKept, opened_as, queue_of, shown, world_in}
use Rattle.sal_hub.proofs.OpenedDevices.{first_kept}
use Rattle.sal_hub.proofs.Wholes.{empty_whole}
use Rattle.sal_hub.proofs.first.hub_of.Goals as goal

pub invariant_of-result : goal.invariant_of-result
invariant_of-result c =
    let p = c.pipeline_of-pipeline.result in
    let is = c.pipeline_of-pipeline.ensures in
    let long : length (world_in (queue_of p).domains) ≡ length c.args.domains.items =
    length-map (queue_of p).domains opened_as ∙ length-map p.domains.items shown ∙ ap (λ (ds : Vec Domain Global). length ds.items) is.domains in
    let count : c.len.result ≡ length (world_in (queue_of p).domains) = grind (arith, common_steps, long) in
    empty_whole c.new-journal.result p c.new-chains.result c.new-marks.result c.new-listeners.result c.services_of-services.result
    (first_kept p c.new-journal.result
    (subst (λ (ds : Vec Domain Global). AreFirst (map shown ds.items)) (sym is.domains) c.requires.first)
    (subst (λ (ds : Vec Domain Global). AreSound (world_in (map shown ds.items))) (sym is.domains) c.requires.sound)
    (subst (λ (ds : Vec Domain Global). OneIsUpgraded (world_in (map shown ds.items))) (sym is.domains) c.requires.only)
    (subst (λ (ds : Vec Domain Global). AllKept ds.items) (sym is.domains) c.requires.kept)
    is.gone is.waiting is.outcomes is.failures c.new-journal.ensures)
    (ap (λ (j : Noted). j.log) c.new-journal.ensures) c.new-chains.ensures.domains c.new-chains.ensures.closed c.new-chains.ensures.begun c.new-chains.ensures.sent c.new-marks.ensures c.new-listeners.ensures.list c.new-listeners.ensures.live
    (c.services_of-services.ensures (world_in (queue_of p).domains) count)

pub returns : goal.returns
returns c =
    λ i. let known : HubHistory = record { world = world_in (map shown (c.pipeline_of-pipeline.ensures.domains i).items); log = (c.new-journal.ensures i).log } in known
