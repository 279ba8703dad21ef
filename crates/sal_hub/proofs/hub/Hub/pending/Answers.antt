-- The submissions that wait are those that are not decided.
use Rattle.std.proofs.Common.{◌≡◌, length, ap, ◌∙◌, arith}
use Rattle.std.proofs.lemmas.Grind.{common_steps}
use Rattle.sal_history.specs.History.{history, pending}
use Rattle.sal_hub.specs.HubHistory.{HubHistory}
use Rattle.sal_hub.proofs.Settling.{waiting_is}
use Rattle.sal_hub.proofs.hub.Hub.pending.Goals as goal

pub returns : goal.returns
returns c =
    let p = c.self.inside.pipeline in
    let count : c.len.result ≡ length p.waiting.items = grind (arith, common_steps) in
    count ∙ waiting_is c.self.inside.journal p c.self.invariant.kept ∙ ap (λ (known : HubHistory). pending (history known.world known.log)) c.self.view_is
