-- A client's run in the definitions' form.
use Rattle.std.specs.List.{list_all}
use Rattle.std.specs.Prelude.{IsTrue, ◌≡◌, ℕ, ◌+◌, ◌≤◌, ◌<◌, Bool, true, false, List, [], ◌∷◌, length, drop, map, Option, None, Some, Result, Ok, Err, ⊤, slice_index_or}
use Rattle.sal_history.specs.World.{Domain}
use Rattle.sal_history.specs.declared.call.Entry.{Entry}
use Rattle.sal_script.specs.declared.reply.StepReply.{StepReply}
use Rattle.sal_script.specs.declared.script.ScriptStep.{ScriptStep}
use Rattle.sal_script.specs.JsonMoves.{is_json_move}
use Rattle.sal_script.specs.Moves.{Move, clients_of, moves_of}
use Rattle.sal_script.specs.Play.{Client, Played, Run, PlayState, arrive, ended, go, play_from, replies_of, start, advance}
use Rattle.sal_script.specs.Tables.{Versions}
use Rattle.sal_hub.specs.HubHistory.{HubHistory}
use Rattle.sal_client.specs.declared.run.ClientRun.{ClientRun as CodeRun}
use Rattle.sal_client.specs.declared.simulation.Played.{Played as CodePlayed}
use Rattle.sal_client.specs.declared.simulation.PlayFault.{PlayFault}
use Rattle.sal_client.specs.declared.simulation.Simulation.{Simulation}
use Rattle.sal_client.specs.declared.simulation.PlayFault.TheVariants.{BadOrder, NoMemory}
use Rattle.sal_client.specs.declared.wish.Wish.{Wish}
use Rattle.sal_client.specs.Clients.{client_of, Everywhere, IsSound}
use Rattle.sal_client.specs.Wishes.{CanMake, GrowsBy, ReadBy, move_by}

-- the remaining moves
abbrev pub moves_from : ℕ → List ScriptStep → List Move
moves_from at steps = moves_of (drop at steps)

-- the client with its remaining moves
abbrev pub run_of : List ScriptStep → CodeRun → Run
run_of steps r = record { client = client_of r.client; steps = moves_from r.at steps }

-- the run is within its program, which is short, and whose values are JSON
pub record IsProgram (steps : List ScriptStep) (r : CodeRun) : Type 0 where
  pub within : r.at ≤ length steps
  pub short : length steps ≤ 60000
  pub json : IsTrue (list_all is_json_move (moves_of steps))

-- and the client is sound
pub record IsRun (known : HubHistory) (steps : List ScriptStep) (r : CodeRun) : Type 0 where
  pub sound : IsSound known r.client
  pub program : IsProgram steps r

-- the client with a call that it is ready to make, and the moves after that
abbrev pub asking : Wish → List ScriptStep → CodeRun → Run
asking wish steps r = record { client = client_of r.client; steps = move_by wish ∷ moves_from r.at steps }

-- The client did its local steps: over each log for which it was sound, it reached its end, or this call.
abbrev pub Comes : List Versions → List ScriptStep → CodeRun → Option Wish → CodeRun → Type 0
Comes tables steps old None new = Everywhere tables old.client (λ known. arrive tables known.world known.log (client_of old.client) (moves_from old.at steps) ≡ ended (client_of new.client))
Comes tables steps old (Some wish) new =
    Everywhere tables old.client (λ known. arrive tables known.world known.log (client_of old.client) (moves_from old.at steps) ≡ arrive tables known.world known.log (asking wish steps new).client (asking wish steps new).steps)
    × CanMake wish new.client × ReadBy tables wish × (old.at < new.at)

-- client c made the call that it was ready to make, for any later steps
abbrev pub MakesNext : List Versions → ℕ → HubHistory → Wish → Client → HubHistory → Client → Type 0
MakesNext tables c known wish old known' new =
    ((steps : List Move) → go tables known.world known.log c (record { client = old; steps = move_by wish ∷ steps }) ≡ Some (record { log = known'.log; run = record { client = new; steps = steps } }))
    × GrowsBy c known known'

-- the client proceeded to its next shared call and made it, or reached its end
abbrev pub Goes : List Versions → Bool → ℕ → HubHistory → List ScriptStep → CodeRun → HubHistory → CodeRun → Type 0
Goes tables true c known steps old known' new =
    (go tables known.world known.log c (run_of steps old) ≡ Some (record { log = known'.log; run = run_of steps new })) × GrowsBy c known known' × (old.at < new.at)
Goes tables false c known steps old known' new =
    (arrive tables known.world known.log (client_of old.client) (moves_from old.at steps) ≡ ended (client_of new.client)) × (known' ≡ known)

-- the clients' runs, each in its own program
abbrev pub runs_of : List (List ScriptStep) → List CodeRun → List Run
runs_of [] rs = []
runs_of (p ∷ ps) [] = []
runs_of (p ∷ ps) (r ∷ rs) = run_of p r ∷ runs_of ps rs

abbrev pub stand_of : List (List ScriptStep) → List Entry → List CodeRun → PlayState
stand_of ps log rs = record { log = log; runs = runs_of ps rs }

-- how many steps the clients have answered
abbrev pub answered : List CodeRun → ℕ
answered [] = 0
answered (r ∷ rs) = r.at + answered rs

-- Each is sound, and has its index as its number. There are few of them, and no more calls were made than steps answered.
pub record AreRuns (known : HubHistory) (ps : List (List ScriptStep)) (rs : List CodeRun) : Type 0 where
  pub long : length rs ≡ length ps
  pub few : length rs ≤ 16
  pub calls : length known.log ≤ answered rs
  pub each : (i : ℕ) (p : List ScriptStep) (r : CodeRun) → i < length rs → p ≡ slice_index_or ps i p → r ≡ slice_index_or rs i r → IsRun known p r × (r.client.number ≡ i)

-- one number of an order, or its failure
abbrev pub Advances : List Versions → Bool → List (List ScriptStep) → ℕ → HubHistory → List CodeRun → HubHistory → List CodeRun → Type 0
Advances tables true ps c known rs known' rs' =
    (advance tables known.world (stand_of ps known.log rs) c ≡ Some (stand_of ps known'.log rs')) × AreRuns known' ps rs' × (known'.world ≡ known.world)
Advances tables false ps c known rs known' rs' = advance tables known.world (stand_of ps known.log rs) c ≡ None

-- the replies of a client to its steps
abbrev pub replies_in : CodeRun → List StepReply
replies_in r = r.client.replies.items

-- all clients reach their ends, with these replies, or one does not
abbrev pub Ends : List Versions → Bool → List (List ScriptStep) → HubHistory → List CodeRun → HubHistory → List CodeRun → Type 0
Ends tables true ps known rs known' rs' = (replies_of tables known.world known.log (runs_of ps rs) ≡ Some (map replies_in rs')) × (known' ≡ known)
Ends tables false ps known rs known' rs' = replies_of tables known.world known.log (runs_of ps rs) ≡ None

-- the result of a script over a world, or where its order fails; `NoMemory` has no condition
abbrev pub PlaysAs : List Domain → Result CodePlayed PlayFault → Result Played ℕ → Type 0
PlaysAs world (Ok p) played = (played ≡ Ok (record { log = p.hub.log; replies = p.replies })) × (p.hub.world ≡ world)
PlaysAs world (Err (BadOrder index)) played = played ≡ Err index
PlaysAs world (Err NoMemory) played = Unit {0}

-- the clients before their first steps, over the hub
abbrev pub Begins : HubHistory → List (List ScriptStep) → Result Simulation PlayFault → Type 0
Begins known ps (Ok s) = (s.hub ≡ known) × AreRuns s.hub ps s.runs.items × (stand_of ps s.hub.log s.runs.items ≡ start (clients_of ps))
Begins known ps (Err why) = why ≡ NoMemory

-- an order was played: its result is that of its end from there; or why it was not
abbrev pub Follows : List Versions → List (List ScriptStep) → List ℕ → HubHistory → List CodeRun → HubHistory → List CodeRun → Result ⊤ PlayFault → Type 0
Follows tables ps order known rs known' rs' (Ok done) =
    (known'.world ≡ known.world) × AreRuns known' ps rs'
    × (play_from tables known.world (length order) (stand_of ps known'.log rs') [] ≡ play_from tables known.world 0 (stand_of ps known.log rs) order)
Follows tables ps order known rs known' rs' (Err why) = PlaysAs known.world (Err why) (play_from tables known.world 0 (stand_of ps known.log rs) order)
