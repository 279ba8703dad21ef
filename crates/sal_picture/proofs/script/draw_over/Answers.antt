-- The play is the play of the definitions.
use Rattle.std.proofs.Common.{◌≡◌, ℕ, List, Result, Ok, Err, ap, sym, ◌∙◌, subst}
use Rattle.std.specs.Prelude.{option_map}
use Rattle.sal_history.specs.World.{Domain}
use Rattle.sal_script.specs.declared.script.Script.{Script}
use Rattle.sal_script.specs.Moves.{clients_of}
use Rattle.sal_script.specs.Play.{Played, play}
use Rattle.sal_prepare.specs.declared.status.Status.{Status}
use Rattle.sal_prepare.specs.Texts.{IsTextOr}
use Rattle.sal_client.specs.Runs.{PlaysAs}
use Rattle.sal_picture.specs.Pictured.{play_text, played_text}
use Rattle.sal_picture.proofs.Unplayed.{unplayed}
use Rattle.sal_picture.proofs.script.draw_over.Goals as goal

pub returns-in-Ok : goal.returns-in-Ok
returns-in-Ok c =
    let p = c.in-Ok.played in
    let is = c.in-Ok.ensures in
    let world = c.args.hub.world in
    let range = c.args.range in
    let script = c.reorder.new.script in
    let clients = clients_of c.args.read.script.clients in
    let same = c.in_ok-reorder.ensures in
    let played : Played = record { log = p.hub.log; replies = p.replies } in
    let text : List ℕ → Result (List ℕ) Status = λ t. Ok t in
    let by_script = ap (λ (s : Script). play world (clients_of s.clients) s.order) same in
    subst (λ (made : Result (List ℕ) Status). IsTextOr made c.draw_played.result)
    (ap (λ (w : List Domain). text (played_text range (clients_of script.clients) w played)) is.1
    ∙ ap (λ (s : Script). text (played_text range (clients_of s.clients) world played)) same
    ∙ sym (ap (play_text range clients world) (sym by_script ∙ is.0)))
    c.draw_played.ensures

pub returns : goal.returns
returns c =
    let world = c.args.hub.world in
    let clients = clients_of c.args.read.script.clients in
    let by_script = ap (λ (s : Script). play world (clients_of s.clients) s.order) c.in_ok-reorder.ensures in
    unplayed c.args.range clients world _ c.in-Err.fault c.play_status.result (subst (PlaysAs world (Err c.in-Err.fault)) by_script c.in-Err.ensures) c.play_status.ensures
