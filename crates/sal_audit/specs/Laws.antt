-- The audit of reports of `run`.
use Rattle.std.specs.Prelude.{◌≡◌, ℕ, List, Some, Ok, codes}
use Rattle.sal_script.specs.SomeOrder.{IsReportInSomeOrder}
use Rattle.sal_prepare.specs.Parted.{Parted, parted}
use Rattle.sal_prepare.specs.Scripted.{Prepared, prepared}
use Rattle.sal_audit.specs.Audited.{audit_text}

-- an input of a script that is prepared, and a report of it in some order; a script has at most 16 clients
abbrev pub InputsOfReportsAreYes : Type 0
InputsOfReportsAreYes =
    (bytes : List ℕ) (both : Parted) (script : Prepared) → parted bytes ≡ Some both → prepared both.first ≡ Ok script
    → IsReportInSomeOrder script.world script.parts.clients both.second → audit_text bytes ≡ Ok (codes "yes\n")
