-- Laws of the verdict.
use Rattle.std.specs.Prelude.{◌≡◌, ◌↔◌, ℕ, ◌^◌, ◌<◌, List, Ok, length}
use Rattle.sal_history.specs.World.{Domain}
use Rattle.sal_script.specs.Moves.{Move}
use Rattle.sal_script.specs.Play.{Played, play}
use Rattle.sal_script.specs.Report.{report}
use Rattle.sal_script.specs.SomeOrder.{IsReportInSomeOrder}
use Rattle.sal_verdict.specs.declared.verdict.Verdict.{Verdict}
use Rattle.sal_verdict.specs.declared.verdict.Verdict.TheVariants.{Yes}
use Rattle.sal_verdict.specs.Verdicts.{Judged, verdict}

-- a verdict is given exactly if it is the right one
abbrev pub VerdictsAreJudged : Type 0
VerdictsAreJudged = (world : List Domain) (clients : List (List Move)) (text : List ℕ) (it : Verdict) → length clients < 2 ^ 32 → (Judged world clients text it ↔ (it ≡ verdict world clients text))

-- no text has two verdicts
abbrev pub VerdictsAreOne : Type 0
VerdictsAreOne =
    (world : List Domain) (clients : List (List Move)) (text : List ℕ) (first second : Verdict) → length clients < 2 ^ 32 → Judged world clients text first → Judged world clients text second → first ≡ second

-- a report in some order, as `run` writes it
abbrev pub RunsAreYes : Type 0
RunsAreYes = (world : List Domain) (clients : List (List Move)) (text : List ℕ) → length clients < 2 ^ 32 → IsReportInSomeOrder world clients text → verdict world clients text ≡ Yes

-- the report of a play, as `sim` writes it
abbrev pub PlaysAreYes : Type 0
PlaysAreYes =
    (world : List Domain) (clients : List (List Move)) (order : List ℕ) (played : Played) → length clients < 2 ^ 32 → play world clients order ≡ Ok played → verdict world clients (report world played) ≡ Yes
