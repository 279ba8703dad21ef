-- The summary of a load that was played in some order.
use Rattle.std.specs.Prelude.{◌≡◌, ℕ, List, Ok}
use Rattle.sal_history.specs.declared.call.Entry.{Entry}
use Rattle.sal_history.specs.World.{Domain}
use Rattle.sal_script.specs.declared.reply.StepReply.{StepReply}
use Rattle.sal_script.specs.Along.{AreLogOf}
use Rattle.sal_script.specs.Load.{clients_of, summary_of, totals_of}
use Rattle.sal_script.specs.Play.{IsLegal, Played, play}
use Rattle.sal_script.specs.Report.{trees_in}

-- the summary of a load over its domain
abbrev pub summary : ℕ → ℕ → List Domain → Played → List ℕ
summary rounds start world played = summary_of rounds start (totals_of played.log (trees_in world played.log 0))

-- The text is the summary of the load's clients, played in an order that is legal.
pub record IsSummaryInSomeOrder (world : List Domain) (rounds start : ℕ) (text : List ℕ) : Type 0 where
  pub order : List ℕ
  pub legal : IsLegal world (clients_of rounds start) order
  pub played : Played
  pub plays : play world (clients_of rounds start) order ≡ Ok played
  pub written : text ≡ summary rounds start world played

-- the summary of a load's clients is one
abbrev pub LeftIsSummed : Type 0
LeftIsSummed =
    (world : List Domain) (rounds start : ℕ) (log : List Entry) (replies : List (List StepReply))
    → AreLogOf world (clients_of rounds start) log replies → IsSummaryInSomeOrder world rounds start (summary rounds start world (record { log = log; replies = replies }))
