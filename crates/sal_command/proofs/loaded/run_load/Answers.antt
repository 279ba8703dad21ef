-- The clients' log is one order, and the summary is that of the order.
use Rattle.std.proofs.Common.{◌≡◌, List, ap, sym, ◌∙◌, subst}
use Rattle.sal_history.specs.World.{Domain}
use Rattle.sal_script.specs.Along.{AreLogOf}
use Rattle.sal_script.specs.Load.{clients_of}
use Rattle.sal_script.specs.LoadOrder.{IsSummaryInSomeOrder, summary}
use Rattle.sal_script.specs.Moves.{Move}
use Rattle.sal_script.specs.Play.{Played}
use Rattle.sal_command.proofs.loaded.run_load.Goals as goal

pub returns : goal.returns
returns g c =
    let n = c.args.rounds in
    let s = c.args.start in
    let world = c.args.prepared.hub.world in
    let left = c.in_ok-left.left in
    let played : Played = record { log = left.hub.log; replies = left.replies } in
    let own : AreLogOf world (clients_of n s) left.hub.log left.replies =
    subst (λ (clients : List (List Move)). AreLogOf world clients left.hub.log left.replies) c.requires.clients c.in_ok-left.ensures.left in
    let told : IsSummaryInSomeOrder world n s (summary n s world played) = c.what_a_load_left_is_summed.ensures world n s left.hub.log left.replies own in
    let text : summary n s world played ≡ c.in_ok-text.text =
    ap (λ (w : List Domain). summary n s w played) (sym c.in_ok-left.ensures.world) ∙ sym c.in_ok-text.ensures in
    subst (IsSummaryInSomeOrder world n s) text told
