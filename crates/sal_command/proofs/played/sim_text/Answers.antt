-- The result of the script is its result over its world.
use Rattle.std.proofs.Common.{◌≡◌, ℕ, List, Result, ap, sym, subst}
use Rattle.sal_types.specs.Reading.{◌>>=◌}
use Rattle.sal_script.specs.Reading.{parts}
use Rattle.sal_prepare.specs.declared.status.Status.{Status}
use Rattle.sal_prepare.specs.Scripted.{Prepared}
use Rattle.sal_prepare.specs.Texts.{IsTextOr}
use Rattle.sal_command.specs.Top.{play_over, sim_text}
use Rattle.sal_command.proofs.played.sim_text.Goals as goal

pub returns : goal.returns
returns g c =
    let it = c.in_ok-prepared.prepared in
    let same : sim_text c.args.bytes.now ≡ play_over (parts it.read.script) it.hub.world =
    ap (λ (made : Result Prepared Status). made >>= (λ script. play_over script.parts script.world)) c.in_ok-prepared.ensures.prepared in
    subst (λ (made : Result (List ℕ) Status). IsTextOr made c.play_over.result) (sym same) c.play_over.ensures
