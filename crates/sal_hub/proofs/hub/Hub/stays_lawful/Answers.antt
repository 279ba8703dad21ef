-- By what the hub keeps.
use Rattle.std.proofs.Common.{◌≤◌, length, subst, arith}
use Rattle.std.proofs.lemmas.List.{length-map}
use Rattle.sal_history.specs.History.{history}
use Rattle.sal_history.specs.World.{OneIsUpgraded}
use Rattle.sal_history_laws.specs.Logs.{AreSentLawful, AreSound}
use Rattle.sal_hub.specs.Begins.{AreOfWriters}
use Rattle.sal_hub.specs.HubHistory.{HubHistory}
use Rattle.sal_hub.specs.PipelineView.{opened_as, queue_of}
use Rattle.sal_hub.proofs.hub.Hub.stays_lawful.Goals as goal

pub returns : goal.returns
returns c =
    let current = c.self.invariant.kept.current in record {
      sound = subst (λ (known : HubHistory). AreSound known.world) c.self.view_is current.openings;
      lawful = subst (λ (known : HubHistory). AreSentLawful known.world (history known.world known.log)) c.self.view_is current.lawful;
      writers = subst (λ (known : HubHistory). AreOfWriters (history known.world known.log)) c.self.view_is current.writers;
      only = subst (λ (known : HubHistory). OneIsUpgraded known.world) c.self.view_is current.only;
      some = subst (λ (known : HubHistory). 1 ≤ length known.world) c.self.view_is (omega (arith, current.sound.some, length-map (queue_of c.self.inside.pipeline).domains opened_as));
    }
