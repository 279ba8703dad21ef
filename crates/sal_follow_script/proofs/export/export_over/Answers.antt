-- The play is the play of the definitions.
use Rattle.std.proofs.Common.{ℕ, List, Result, ap, sym, ◌∙◌, subst}
use Rattle.sal_script.specs.Moves.{clients_of}
use Rattle.sal_script.specs.Play.{play}
use Rattle.sal_prepare.specs.declared.status.Status.{Status}
use Rattle.sal_prepare.specs.Texts.{IsTextOr}
use Rattle.sal_follow_script.specs.Exports.{export_log, export_play}
use Rattle.sal_follow_script.proofs.Leader.{unplayed}
use Rattle.sal_follow_script.proofs.export.export_over.Goals as goal

pub returns-in-Ok : goal.returns-in-Ok
returns-in-Ok c =
    let p = c.in-Ok.played in
    let is = c.in-Ok.ensures in
    let world = c.args.hub.world in
    subst (λ (made : Result (List ℕ) Status). IsTextOr made c.export_played.result) (ap (λ w. export_log w p.hub.log) is.1 ∙ sym (ap (export_play world) is.0)) c.export_played.ensures

pub returns : goal.returns
returns c =
    let world = c.args.hub.world in
    let script = c.args.read.script in
    unplayed world (play world (clients_of script.clients) script.order) c.in-Err.fault c.play_status.result c.in-Err.ensures c.play_status.ensures
