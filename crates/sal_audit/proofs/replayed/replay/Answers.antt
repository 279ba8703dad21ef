-- What was played is what the definitions play.
use Rattle.std.proofs.Common.{◌≡◌, ℕ, List, ap, sym, ◌∙◌, subst}
use Rattle.std.specs.Prelude.{IfOk}
use Rattle.sal_history.specs.World.{Domain}
use Rattle.sal_script.specs.Play.{Played}
use Rattle.sal_verdict.specs.declared.verdict.Verdict.{Verdict}
use Rattle.sal_verdict.specs.Verdicts.{by_play, by_played}
use Rattle.sal_audit.proofs.replayed.replay.Goals as goal

pub returns-in-Ok : goal.returns-in-Ok
returns-in-Ok c =
    let p = c.in-Ok.played in
    let is = c.in-Ok.ensures in
    let world = c.args.hub.world in
    let text = c.args.text.now in
    let played : Played = record { log = p.hub.log; replies = p.replies } in
    subst (λ (v : Verdict). IfOk c.compared.result (λ verdict. verdict ≡ v)) (ap (λ (w : List Domain). by_played w text played) is.1 ∙ sym (ap (by_play world text) is.0)) c.compared.ensures
