-- The newest trees are the log's.
use Rattle.std.proofs.Common.{◌<◌, List, ap, length, ◌∙◌, arith}
use Rattle.std.proofs.lemmas.Grind.{common_steps}
use Rattle.sal_tree.specs.declared.commit.Commit.{Commit}
use Rattle.sal_rows.specs.Clash.{tip}
use Rattle.sal_graft.specs.Kept.{opening_in, ops_of}
use Rattle.sal_history.specs.History.{newest_tree}
use Rattle.sal_hub.specs.HubHistory.{HubHistory}
use Rattle.sal_hub.proofs.Serving.{known_domain, tip_is}
use Rattle.sal_hub.proofs.Starting.{same_rows}
use Rattle.sal_hub.proofs.hub.Hub.trees_of.Goals as goal

pub returns : goal.returns
returns c =
    λ s.
    same_rows c.last_commit.result.now.trees s ∙ c.last_commit.ensures s ∙ ap (λ (xs : List Commit). tip (opening_in xs) (ops_of xs) s) c.deref.ensures.value
    ∙ tip_is c.self.inside.journal c.self.inside.pipeline c.self.invariant.kept c.args.domain c.index.result.now (known_domain c.self.inside.journal c.self.inside.pipeline c.args.self.now c.self.view_is c.args.domain c.requires) c.index.ensures s
    ∙ ap (λ (known : HubHistory). newest_tree known.world known.log c.args.domain s) c.self.view_is

pub index-requires : goal.index-requires
index-requires c =
    let within : c.args.domain < length c.self.inside.pipeline.domains.items = known_domain c.self.inside.journal c.self.inside.pipeline c.args.self.now c.self.view_is c.args.domain c.requires in
    grind (arith, common_steps, within)
