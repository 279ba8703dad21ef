-- The audit of a text that may be the report of a script.
use Rattle.std.specs.Prelude.{◌≡◌, ◌⊎◌, ℕ, ◌^◌, ◌<◌, All, List, [], ◌∷◌, ◌++◌, Option, None, Some, Result, Ok, Err, codes, decimal}
use Rattle.sal_history.specs.World.{Domain}
use Rattle.sal_script.specs.Moves.{Move}
use Rattle.sal_script.specs.Play.{IsLegal, Played, play}
use Rattle.sal_script.specs.Report.{report}
use Rattle.sal_script.specs.SomeOrder.{IsReportInSomeOrder, Tells}
use Rattle.sal_order.specs.Differences.{PartsBehind, difference}
use Rattle.sal_order.specs.FirstLines.{told_order}
use Rattle.sal_verdict.specs.declared.verdict.Verdict.{Verdict}
use Rattle.sal_verdict.specs.declared.verdict.Verdict.TheVariants.{Yes, No}

-- ---- the verdict

-- by the first difference between the text and the report of the order that it states
abbrev pub by_difference : Option ℕ → Verdict
by_difference None = Yes
by_difference (Some line) = No line

abbrev pub by_report : List ℕ → List ℕ → Verdict
by_report text own = by_difference (difference 0 text own)

-- by the play in that order
abbrev pub by_played : List Domain → List ℕ → Played → Verdict
by_played world text played = by_report text (report world played)

-- an order that fails is not one of the script
abbrev pub by_play : List Domain → List ℕ → Result Played ℕ → Verdict
by_play world text (Ok played) = by_played world text played
by_play world text (Err index) = No 0

abbrev pub by_order : List Domain → List (List Move) → List ℕ → Option (List ℕ) → Verdict
by_order world clients text None = No 0
by_order world clients text (Some order) = by_play world text (play world clients order)

-- The verdict on a text: by the order on its first line. The law `VerdictsAreJudged` states its meaning.
abbrev pub verdict : List Domain → List (List Move) → List ℕ → Verdict
verdict world clients text = by_order world clients text (told_order text)

-- its line
abbrev pub line_of : Verdict → List ℕ
line_of Yes = codes "yes\n"
line_of (No line) = codes "no " ++ (decimal line ++ 10 ∷ [])

-- ---- the meaning

-- The text's first line states this order, `order` and for each call a space and its client's number below 2^32 without leading zeros, and the
-- order is one of the script's.
pub record IsOrder (world : List Domain) (clients : List (List Move)) (text : List ℕ) (order : List ℕ) : Type 0 where
  pub below : All (λ n. n < 2 ^ 32) order
  pub told : Tells text order
  pub legal : IsLegal world clients order

-- It states none: it has another form, or its order is not legal.
abbrev pub TellsNone : List Domain → List (List Move) → List ℕ → Type 0
TellsNone world clients text = (order : List ℕ) → IsOrder world clients text order → ⊥

-- It states one, and the longest common prefix of the text and the report of that order has this many whole lines, but is not the whole of both.
pub record Differs (world : List Domain) (clients : List (List Move)) (text : List ℕ) (line : ℕ) : Type 0 where
  pub order : List ℕ
  pub is : IsOrder world clients text order
  pub played : Played
  pub plays : play world clients order ≡ Ok played
  pub parts : PartsBehind text (report world played) line

abbrev pub Judged : List Domain → List (List Move) → List ℕ → Verdict → Type 0
Judged world clients text Yes = IsReportInSomeOrder world clients text
Judged world clients text (No line) = (TellsNone world clients text × (line ≡ 0)) ⊎ Differs world clients text line
