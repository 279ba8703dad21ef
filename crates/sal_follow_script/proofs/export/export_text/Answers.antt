-- The result of the script is its result over its world.
use Rattle.std.proofs.Common.{◌≡◌, ℕ, List, Result, ap, sym, subst}
use Rattle.sal_types.specs.Reading.{◌>>=◌}
use Rattle.sal_script.specs.Play.{play}
use Rattle.sal_script.specs.Reading.{parts}
use Rattle.sal_prepare.specs.declared.status.Status.{Status}
use Rattle.sal_prepare.specs.Scripted.{Prepared}
use Rattle.sal_prepare.specs.Texts.{IsTextOr}
use Rattle.sal_follow_script.specs.Exports.{export_play, export_text}
use Rattle.sal_follow_script.proofs.export.export_text.Goals as goal

pub returns : goal.returns
returns c =
    let it = c.in_ok-prepared.prepared in
    let same : export_text c.args.bytes.now ≡ export_play it.hub.world (play it.hub.world (parts it.read.script).clients (parts it.read.script).order) =
    ap (λ (made : Result Prepared Status). made >>= (λ script. export_play script.world (play script.world script.parts.clients script.parts.order))) c.in_ok-prepared.ensures.prepared in
    subst (λ (made : Result (List ℕ) Status). IsTextOr made c.export_over.result) (sym same) c.export_over.ensures
