-- How `lint` ends.
use Rattle.std.proofs.Common.{◌≡◌, List, Option, ℕ, subst, sym, inl, inr}
use Rattle.sal_prepare.specs.declared.status.Status.{Status}
use Rattle.sal_prepare.specs.declared.status.Status.TheVariants.{Done, BadWords, ReadFault, WriteFault, TooLong, BadScript, BadSchema, BadOpening, BadOrder, NoMemory, NoPart, BadStream, BadExport}
use Rattle.sal_lint_script.specs.Linted.{IsEnd}
use Rattle.sal_command.specs.Top.{IsWrittenWith, LintAnswers, Says, Written}

whole : (before after given given' : Option (List ℕ)) (text : List ℕ) (status : Status) → Says before after text status → IsEnd status → Written text given given' Done
    → LintAnswers before after given given' status
whole before after given given' text Done says end written = (text, says, written)
whole before after given given' text (BadScript place) says end written = (text, says, written)
whole before after given given' text (BadSchema device fault) says end written = (text, says, written)
whole before after given given' text (BadOpening fault) says end written = (text, says, written)
whole before after given given' text BadWords says end written = absurd end
whole before after given given' text ReadFault says end written = absurd end
whole before after given given' text WriteFault says end written = absurd end
whole before after given given' text TooLong says end written = absurd end
whole before after given given' text (BadOrder index) says end written = absurd end
whole before after given given' text NoMemory says end written = absurd end
whole before after given given' text NoPart says end written = absurd end
whole before after given given' text (BadStream fault) says end written = absurd end
whole before after given given' text (BadExport commit) says end written = absurd end

pub lints : (before after given given' : Option (List ℕ)) (text : List ℕ) (status result : Status) → Says before after text status → IsEnd status
    → IsWrittenWith text status given given' result → LintAnswers before after given given' result
lints before after given given' text status result says end (inl (same, written)) =
    subst (λ (s : Status). LintAnswers before after given given' s) (sym same) (whole before after given given' text status says end written)
lints before after given given' text status result says end (inr (same, written)) =
    subst (λ (s : Status). LintAnswers before after given given' s) (sym same) (text, status, says, written)
