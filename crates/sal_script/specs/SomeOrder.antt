-- The report of clients that ran in some order, which the report's first line states.
use Rattle.std.specs.Prelude.{◌≡◌, ℕ, ◌^◌, List, [], ◌∷◌, ◌++◌, Ok, IsTrue, codes, flat_map, nat_lt}
use Rattle.std.specs.List.{list_all}
use Rattle.sal_history.specs.declared.call.Entry.{Entry}
use Rattle.sal_history.specs.World.{Domain}
use Rattle.sal_script.specs.declared.reply.StepReply.{StepReply}
use Rattle.sal_script.specs.Moves.{Move}
use Rattle.sal_script.specs.Play.{IsLegal, Played, play}
use Rattle.sal_script.specs.Report.{number, report}
use Rattle.sal_script.specs.Along.{AreLogOf}

-- the line of an order
abbrev pub line_of : List ℕ → List ℕ
line_of order = codes "order" ++ (flat_map number order ++ (10 ∷ []))

-- the first line of a text is that of the order
abbrev pub Tells : List ℕ → List ℕ → Type 0
Tells text order = (rest : List ℕ) × (text ≡ line_of order ++ rest)

-- The text is the report of the script played in the order that is on the text's own first line, and this order is legal.
pub record IsReportInSomeOrder (world : List Domain) (clients : List (List Move)) (text : List ℕ) : Type 0 where
  pub order : List ℕ
  pub told : Tells text order
  pub legal : IsLegal world clients order
  pub played : Played
  pub plays : play world clients order ≡ Ok played
  pub written : text ≡ report world played

-- the report of clients' results is one
abbrev pub LeftIsReported : Type 0
LeftIsReported =
    (world : List Domain) (clients : List (List Move)) (log : List Entry) (replies : List (List StepReply))
    → AreLogOf world clients log replies → IsReportInSomeOrder world clients (report world (record { log = log; replies = replies }))

-- numbers that a client can have
abbrev pub AreNumbers : List ℕ → Type 0
AreNumbers order = IsTrue (list_all (λ n. nat_lt n (2 ^ 64)) order)

-- a first line states no other order
abbrev pub FirstLinesTellOneOrder : Type 0
FirstLinesTellOneOrder = (text first second : List ℕ) → AreNumbers first → AreNumbers second → Tells text first → Tells text second → first ≡ second
