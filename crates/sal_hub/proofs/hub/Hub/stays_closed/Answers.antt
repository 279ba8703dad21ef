-- The openings are closed and the submissions of the log are lawful, by what the hub keeps.
use Rattle.std.proofs.Common.{subst}
use Rattle.sal_history.specs.History.{history}
use Rattle.sal_history_laws.specs.Logs.{IsClosedLog}
use Rattle.sal_hub.specs.HubHistory.{HubHistory}
use Rattle.sal_hub.specs.PipelineView.{queue_of, world_in}
use Rattle.sal_hub.proofs.hub.Hub.stays_closed.Goals as goal

pub returns : goal.returns
returns c =
    let journal = c.self.inside.journal in
    let p = c.self.inside.pipeline in
    let current = c.self.invariant.kept.current in
    subst (λ (known : HubHistory). IsClosedLog known.world (history known.world known.log)) c.self.view_is
    (c.committed_trees_are_closed.ensures (world_in (queue_of p).domains) journal.log current.openings current.lawful)
