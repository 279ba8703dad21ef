-- The clients' log is one order, and the report is that of the order.
use Rattle.std.proofs.Common.{◌≡◌, List, ap, sym, ◌∙◌, subst}
use Rattle.sal_script.specs.Moves.{clients_of}
use Rattle.sal_script.specs.Report.{report}
use Rattle.sal_script.specs.Play.{Played}
use Rattle.sal_script.specs.SomeOrder.{IsReportInSomeOrder}
use Rattle.sal_history.specs.World.{Domain}
use Rattle.sal_command.proofs.played.run_over.Goals as goal

pub returns : goal.returns
returns g c =
    let world = c.args.hub.world in
    let clients = clients_of c.args.read.script.clients in
    let left = c.in_ok-left.left in
    let played : Played = record { log = left.hub.log; replies = left.replies } in
    let told : IsReportInSomeOrder world clients (report world played) = c.what_is_left_is_reported.ensures world clients left.hub.log left.replies c.in_ok-left.ensures.left in
    let text : report world played ≡ c.in_ok-text.text =
    ap (λ (w : List Domain). report w played) (sym c.in_ok-left.ensures.world) ∙ sym c.in_ok-text.ensures in
    subst (IsReportInSomeOrder world clients) text told
