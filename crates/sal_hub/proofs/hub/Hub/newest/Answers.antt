-- The commits are the log's.
use Rattle.std.proofs.Common.{◌≡◌, ◌-◌, length, ap, ◌∙◌, arith}
use Rattle.std.proofs.lemmas.Grind.{common_steps}
use Rattle.sal_history.specs.History.{commits, history}
use Rattle.sal_hub.specs.HubHistory.{HubHistory}
use Rattle.sal_hub.proofs.Serving.{count_is, some_domain}
use Rattle.sal_hub.proofs.hub.Hub.newest.Goals as goal

pub returns : goal.returns
returns c =
    let journal = c.self.inside.journal in
    let p = c.self.inside.pipeline in
    let count : c.len.result - 1 ≡ length c.index.result.now.commits.items - 1 = grind (arith, common_steps) in
    count ∙ count_is journal p c.self.invariant.kept 0 c.index.result.now (some_domain journal p c.self.invariant.kept) c.index.ensures
    ∙ ap (λ (known : HubHistory). length (commits (history known.world known.log) 0)) c.self.view_is
