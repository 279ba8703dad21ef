-- The result of clients is one order: the script, played in the order of their log, has that log and their replies.
use Rattle.std.specs.Prelude.{◌≡◌, ◌≤◌, ℕ, List, Ok, IsTrue, length}
use Rattle.sal_history.specs.declared.call.Entry.{Entry}
use Rattle.sal_history.specs.World.{Domain}
use Rattle.sal_script.specs.declared.reply.StepReply.{StepReply}
use Rattle.sal_script.specs.Limits.{within_limits}
use Rattle.sal_script.specs.Moves.{Move}
use Rattle.sal_script.specs.Play.{IsLegal, Played, play}
use Rattle.sal_script.specs.Orders.{Follows}
use Rattle.sal_script.specs.Along.{AreLogOf, order_of}

-- The order of the log is legal: it has each client's shared calls, each once and in the client's own order. Played in it,
-- the script gives this log and these replies.
pub record IsOneOrder (world : List Domain) (clients : List (List Move)) (log : List Entry) (replies : List (List StepReply)) : Type 0 where
  pub plays : play world clients (order_of log) ≡ Ok (record { log = log; replies = replies })
  pub legal : IsLegal world clients (order_of log)
  pub follows : Follows world clients (order_of log) (record { log = log; replies = replies })

-- the result of clients is one order
abbrev pub LeftIsOneOrder : Type 0
LeftIsOneOrder = (world : List Domain) (clients : List (List Move)) (log : List Entry) (replies : List (List StepReply)) → AreLogOf world clients log replies → IsOneOrder world clients log replies

-- and a play in an order is a possible result of its clients
abbrev pub PlayedCanBeLeft : Type 0
PlayedCanBeLeft =
    (world : List Domain) (clients : List (List Move)) (order : List ℕ) (played : Played) → play world clients order ≡ Ok played
    → (order_of played.log ≡ order) × AreLogOf world clients played.log played.replies

-- the log of a script's clients is shorter than the limit: they make at most one shared call for each step
abbrev pub LeftIsShort : Type 0
LeftIsShort =
    (world : List Domain) (clients : List (List Move)) (log : List Entry) (replies : List (List StepReply))
    → AreLogOf world clients log replies → IsTrue (within_limits clients) → length log ≤ 960000
