use Rattle.std.proofs.Common.{◌≡◌, ℕ, List, IfOk, string_bytes, subst, sym, ◌∙◌}
use Rattle.sal_json.specs.Numerals.{with_point, point_text}
use Rattle.sal_json.proofs.Points.{point_text-zero, point_text-one, point_text-other}
use Rattle.sal_json.proofs.written.point_text.Goals.{then-loop-digits-test+else-units-eq0, else-loop-digits-test}
use Rattle.sal_json.proofs.written.point_text.Goals as goal

pub loop-digits-preserved : goal.loop-digits-preserved
loop-digits-preserved c = c.loop-digits.invariant ∙ point_text-zero c.loop-digits.digits c.loop-digits.units c.loop-digits-test.true c.if-units-eq0.true

pub returns : goal.returns
returns c =
    let digits = c.loop-digits.digits in
    let units = c.loop-digits.units in
    let same : point_text c.args.digits c.args.units ≡ with_point digits units =
    elim c.loop-digits-test.branch [
      | then-loop-digits-test+else-units-eq0 w ↦ c.loop-digits.invariant ∙ point_text-other digits units w.loop-digits-test.true w.if-units-eq0.false
      | else-loop-digits-test w ↦ c.loop-digits.invariant ∙ point_text-one digits units w.loop-digits-test.false
    ] in
    let P : List ℕ → Type 0 = λ x. IfOk c.with_point.result (λ t. string_bytes t ≡ x) in
    subst P (sym same) c.with_point.ensures
