-- Only the first domain changes.
use Rattle.sal_hub.proofs.Listed.{slice_get_at}
use Rattle.sal_hub.proofs.Serving.{kept_at}
use Rattle.sal_hub.proofs.Upgrading.{kept_upgraded, line_upgraded}
use Rattle.sal_hub.proofs.pipeline.Pipeline.upgrade.Goals as goal

pub upgrade-requires-clause-kept : goal.upgrade-requires-clause-kept
upgrade-requires-clause-kept c = kept_at c.args.self.now.domains.items 0 c.index_mut.result.now c.requires.kept c.requires.there c.index_mut.ensures.value

pub upgrade-requires-clause-version : goal.upgrade-requires-clause-version
upgrade-requires-clause-version c = (c.requires.next c.index_mut.result.now (slice_get_at c.args.self.now.domains.items 0 c.index_mut.result.now c.requires.there c.index_mut.ensures.value)).0

pub upgrade-requires-clause-sound : goal.upgrade-requires-clause-sound
upgrade-requires-clause-sound c = (c.requires.next c.index_mut.result.now (slice_get_at c.args.self.now.domains.items 0 c.index_mut.result.now c.requires.there c.index_mut.ensures.value)).1

pub returns-clause-kept : goal.returns-clause-kept
returns-clause-kept c =
    kept_upgraded c.args.self.now.domains.items c.index_mut.result.now _ c.args.next.number c.requires.kept
    (kept_at c.args.self.now.domains.items 0 c.index_mut.result.now c.requires.kept c.requires.there c.index_mut.ensures.value) c.upgrade.ensures

pub returns-clause-queue : goal.returns-clause-queue
returns-clause-queue c =
    line_upgraded c.args.self.now c.index_mut.result.now _ c.args.next.number c.requires.there c.index_mut.ensures.value
    (kept_at c.args.self.now.domains.items 0 c.index_mut.result.now c.requires.kept c.requires.there c.index_mut.ensures.value) c.upgrade.ensures
