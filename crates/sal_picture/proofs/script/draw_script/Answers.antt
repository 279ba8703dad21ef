-- The picture of the script is its picture over its world.
use Rattle.std.proofs.Common.{◌≡◌, ℕ, List, Result, ap, sym, subst}
use Rattle.std.specs.Prelude.{option_map}
use Rattle.std.specs.Borrow.{Bor}
use Rattle.sal_types.specs.Reading.{◌>>=◌}
use Rattle.sal_script.specs.Reading.{parts}
use Rattle.sal_prepare.specs.declared.status.Status.{Status}
use Rattle.sal_prepare.specs.Scripted.{Prepared}
use Rattle.sal_prepare.specs.Texts.{IsTextOr}
use Rattle.sal_picture.specs.Pictured.{drawn, drawn_over, order_for}
use Rattle.sal_picture.proofs.script.draw_script.Goals as goal

pub returns : goal.returns
returns c =
    let it = c.in_ok-prepared.prepared in
    let range = c.args.range in
    let report = option_map (λ (r : Bor (List ℕ)). r.now) c.args.report in
    let same : drawn range c.args.bytes.now report ≡ drawn_over range (parts it.read.script).clients it.hub.world (order_for (parts it.read.script).order report) =
    ap (λ (made : Result Prepared Status). made >>= (λ script. drawn_over range script.parts.clients script.world (order_for script.parts.order report))) c.in_ok-prepared.ensures.prepared in
    subst (λ (made : Result (List ℕ) Status). IsTextOr made c.draw_over.result) (sym same) c.draw_over.ensures
