-- The newest trees are the log's.
use Rattle.std.proofs.Common.{List, ap, ◌∙◌}
use Rattle.sal_tree.specs.declared.commit.Commit.{Commit}
use Rattle.sal_rows.specs.Clash.{tip}
use Rattle.sal_graft.specs.Kept.{opening_in, ops_of}
use Rattle.sal_history.specs.History.{newest_tree}
use Rattle.sal_hub.specs.HubHistory.{HubHistory}
use Rattle.sal_hub.proofs.Serving.{some_domain, tip_is}
use Rattle.sal_hub.proofs.Starting.{same_rows}
use Rattle.sal_hub.proofs.hub.Hub.trees.Goals as goal

pub returns : goal.returns
returns c =
    λ s.
    same_rows c.last_commit.result.now.trees s ∙ c.last_commit.ensures s ∙ ap (λ (xs : List Commit). tip (opening_in xs) (ops_of xs) s) c.deref.ensures.value
    ∙ tip_is c.self.inside.journal c.self.inside.pipeline c.self.invariant.kept 0 c.index.result.now (some_domain c.self.inside.journal c.self.inside.pipeline c.self.invariant.kept) c.index.ensures s
    ∙ ap (λ (known : HubHistory). newest_tree known.world known.log 0 s) c.self.view_is
