-- One client along a log of several clients. An entry of another client is taken as it is; at an entry of its own the
-- client proceeds to its next shared call, over the entries before. So the client makes its own log. If this
-- is the given log, each of its calls is there at its place, and no other is.
use Rattle.std.specs.Prelude.{◌≡◌, ℕ, ◌<◌, ◌≤◌, List, [], ◌∷◌, ◌++◌, length, map, Option, Some, option_and_then, if◌then◌else◌, nat_eq, slice_get}
use Rattle.std.specs.List.{fold}
use Rattle.std.specs.Option.{option_map}
use Rattle.sal_history.specs.declared.call.Entry.{Entry}
use Rattle.sal_history.specs.Listeners.{listener_at}
use Rattle.sal_history.specs.World.{Domain}
use Rattle.sal_history.specs.History.{commits, history}
use Rattle.sal_script.specs.declared.reply.StepReply.{StepReply}
use Rattle.sal_script.specs.Moves.{Move}
use Rattle.sal_script.specs.Play.{Client, Listener, Made, Open, Run, arrive, go, new_client, replies_at}
use Rattle.sal_script.specs.Tables.{Versions, versions_of}

-- a client before its first step
abbrev pub new_run : List Move → Run
new_run steps = record { client = new_client; steps = steps }

-- the log that a client made along a given one, and its replies
pub record Left : Type 0 where
  pub log : List Entry
  pub replies : List StepReply

module _ (tables : List Versions) (world : List Domain) (c : ℕ) where
  -- one more entry: if it is the client's own, the client's next call; none if it reaches its end first
  abbrev pub pass : Made → Entry → Option Made
  pass made e = if nat_eq e.client c then go tables world made.log c made.run else Some (record made { log = made.log ++ e ∷ [] })

  -- the log that the client made along this one, and its run right after its last call
  abbrev pub along : List Entry → Run → Option Made
  along log run = fold (λ so_far e. option_and_then (λ made. pass made e) so_far) (Some (record { log = []; run = run })) log

  -- the client does its remaining steps; none if one of them is a shared call
  abbrev pub finish : Made → Option Left
  finish made = option_map (λ replies. record { log = made.log; replies = replies }) (replies_at (arrive tables world made.log made.run.client made.run.steps))

  -- the result of a client with these steps along the log
  abbrev pub left_along : List Entry → List Move → Option Left
  left_along log steps = option_and_then finish (along log (new_run steps))

  -- The entries of this client in the log are the shared calls of its steps, each at its place, numbered by the earlier ones,
  -- and once; and it has these replies to its steps at its end.
  abbrev pub PerformsAlong : List Entry → List Move → List StepReply → Type 0
  PerformsAlong log steps replies = left_along log steps ≡ Some (record { log = log; replies = replies })

-- the client's transactions began in the log
abbrev pub BeganIn : List Entry → Client → Type 0
BeganIn log client = (slot : ℕ) (tx : Open) → client.transactions slot ≡ Some tx → tx.place < length log

-- client c made the listener in the log, and its batches had only committed changes
pub record IsListening (world : List Domain) (c : ℕ) (log : List Entry) (listener : Listener) : Type 0 where
  pub made : listener_at (history world log) listener.id ≡ Some (record { client = c; domain = listener.domain; store = listener.store; path = listener.path })
  pub reached : listener.version ≤ length (commits (history world log) listener.domain)

-- so it is with each of its listeners
abbrev pub ListensIn : List Domain → ℕ → List Entry → Client → Type 0
ListensIn world c log client = (slot : ℕ) (listener : Listener) → client.listeners slot ≡ Some listener → IsListening world c log listener

-- The place of client c with these steps while the log grows: it made its calls there, and did local steps after the
-- last of them, which have the same replies over each longer log.
pub record IsAt (tables : List Versions) (world : List Domain) (c : ℕ) (steps : List Move) (log : List Entry) (now : Run) : Type 0 where
  pub called : Run
  pub follows : along tables world c log (new_run steps) ≡ Some (record { log = log; run = called })
  pub answered : (more : List Entry) → arrive tables world (log ++ more) called.client called.steps ≡ arrive tables world (log ++ more) now.client now.steps
  pub began : BeganIn log now.client
  pub listens : ListensIn world c log now.client

-- The result of clients: each entry of the log is a call of one of them, and each reached its end along it, with its replies.
pub record AreLogOf (world : List Domain) (clients : List (List Move)) (log : List Entry) (replies : List (List StepReply)) : Type 0 where
  pub known : (i : ℕ) (e : Entry) → slice_get log i ≡ Some e → e.client < length clients
  pub all : length replies ≡ length clients
  pub each : (c : ℕ) (steps : List Move) (rs : List StepReply) → slice_get clients c ≡ Some steps → slice_get replies c ≡ Some rs → PerformsAlong (versions_of world) world c log steps rs

-- the client of each entry, in order
abbrev pub order_of : List Entry → List ℕ
order_of log = map (λ (e : Entry). e.client) log
