-- The verdict of the script is that over its world.
use Rattle.std.proofs.Common.{◌≡◌, ℕ, List, Result, Ok, ap, sym, ◌∙◌}
use Rattle.sal_types.specs.Reading.{◌>>=◌}
use Rattle.sal_prepare.specs.declared.status.Status.{Status}
use Rattle.sal_prepare.specs.Scripted.{Prepared}
use Rattle.sal_audit.specs.Audited.{audited}
use Rattle.sal_audit.proofs.audited.audit_parts.Goals as goal

pub returns : goal.returns
returns c =
    let text = c.args.input.second.now in
    let ends : List ℕ → Result (List ℕ) Status = λ line. Ok line in
    ap (λ (made : Result Prepared Status). made >>= (λ script. ends (audited text script))) c.in_ok-prepared.ensures.prepared ∙ ap ends (sym c.in_ok-line.ensures)
