-- The commits are the log's.
use Rattle.std.proofs.Common.{◌≡◌, ◌-◌, ◌<◌, length, ap, ◌∙◌, arith}
use Rattle.std.proofs.lemmas.Grind.{common_steps}
use Rattle.sal_history.specs.History.{commits, history}
use Rattle.sal_hub.specs.HubHistory.{HubHistory}
use Rattle.sal_hub.proofs.Serving.{count_is, known_domain}
use Rattle.sal_hub.proofs.hub.Hub.newest_of.Goals as goal

pub returns : goal.returns
returns c =
    let journal = c.self.inside.journal in
    let p = c.self.inside.pipeline in
    let count : c.len.result - 1 ≡ length c.index.result.now.commits.items - 1 = grind (arith, common_steps) in
    count ∙ count_is journal p c.self.invariant.kept c.args.domain c.index.result.now (known_domain journal p c.args.self.now c.self.view_is c.args.domain c.requires) c.index.ensures
    ∙ ap (λ (known : HubHistory). length (commits (history known.world known.log) c.args.domain)) c.self.view_is

pub index-requires : goal.index-requires
index-requires c =
    let within : c.args.domain < length c.self.inside.pipeline.domains.items = known_domain c.self.inside.journal c.self.inside.pipeline c.args.self.now c.self.view_is c.args.domain c.requires in
    grind (arith, common_steps, within)
