-- An input of a script and its report gets yes.
use Rattle.std.proofs.Common.{◌≡◌, ℕ, ◌^◌, ◌<◌, List, length, Option, Result, Ok, Err, ap, ◌∙◌, arith}
use Rattle.std.specs.Option.{option_map_or}
use Rattle.sal_types.specs.Reading.{◌>>=◌}
use Rattle.sal_prepare.specs.declared.status.Status.{Status}
use Rattle.sal_prepare.specs.declared.status.Status.TheVariants.{NoPart}
use Rattle.sal_prepare.specs.Parted.{Parted}
use Rattle.sal_prepare.specs.Scripted.{Prepared}
use Rattle.sal_verdict.specs.declared.verdict.Verdict.{Verdict}
use Rattle.sal_verdict.specs.Laws.{RunsAreYes}
use Rattle.sal_verdict.specs.Verdicts.{line_of}
use Rattle.sal_audit.specs.Audited.{audit_parts, audited}
use Rattle.sal_audit.specs.Laws.{InputsOfReportsAreYes}
use Rattle.sal_audit.proofs.Few.{few-prepared}

pub inputs-are-yes : RunsAreYes → InputsOfReportsAreYes
inputs-are-yes runs bytes both script parted prepared it =
    let most = few-prepared both.first script prepared in
    let few : length script.parts.clients < 2 ^ 32 = omega (arith, most) in
    ap (λ (o : Option Parted). option_map_or audit_parts o (Err NoPart)) parted
    ∙ ap (λ (made : Result Prepared Status). made >>= (λ x. Ok (audited both.second x))) prepared
    ∙ ap (λ (v : Verdict). Ok (line_of v)) (runs script.world script.parts.clients both.second few it)
