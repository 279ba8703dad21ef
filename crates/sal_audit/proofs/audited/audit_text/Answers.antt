-- The input is cut at its first zero byte.
use Rattle.std.proofs.Common.{ℕ, List, Option, Result, Err, ap, subst}
use Rattle.std.specs.Option.{option_map_or}
use Rattle.sal_prepare.specs.declared.status.Status.{Status}
use Rattle.sal_prepare.specs.declared.status.Status.TheVariants.{NoPart}
use Rattle.sal_prepare.specs.Parted.{Parted}
use Rattle.sal_prepare.specs.Texts.{IsTextOr}
use Rattle.sal_audit.specs.Audited.{audit_parts}
use Rattle.sal_audit.proofs.audited.audit_text.Goals as goal

pub returns-in-Some : goal.returns-in-Some
returns-in-Some c =
    subst (λ (made : Result (List ℕ) Status). IsTextOr made c.audit_parts.result) (ap (λ (o : Option Parted). option_map_or audit_parts o (Err NoPart)) c.in-Some.ensures) c.audit_parts.ensures
