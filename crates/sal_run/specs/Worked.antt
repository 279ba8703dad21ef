-- A client on a thread: before its first step, and when it has ended or was stopped.
use Rattle.std.specs.Prelude.{◌≡◌, ◌+◌, ◌*◌, ◌<◌, ◌≤◌, [], List, Err, Some, IsSome, length, slice_get, OnOk}
use Rattle.sal_history.specs.declared.call.Entry.{Entry}
use Rattle.sal_history.specs.World.{Domain}
use Rattle.sal_turn.specs.Entries.{entries_by}
use Rattle.sal_turn.specs.Seats.{Place, TableId}
use Rattle.sal_broker.specs.Seats.{client_of as maker_of, inside, known}
use Rattle.sal_broker.specs.Turns.{Keeps}
use Rattle.sal_hub.specs.Answers.{limit}
use Rattle.sal_hub.specs.HubHistory.{HubHistory}
use Rattle.sal_script.specs.declared.script.ScriptStep.{ScriptStep}
use Rattle.sal_script.specs.Moves.{moves_of}
use Rattle.sal_script.specs.Orders.{exchanges_of}
use Rattle.sal_script.specs.Play.{new_client}
use Rattle.sal_script.specs.Tables.{Versions, versions_of}
use Rattle.sal_client.specs.declared.wish.RunFault.TheVariants.{HistoryFull}
use Rattle.sal_client.specs.Clients.{IsSound, client_of}
use Rattle.sal_client.specs.Runs.{replies_in}
use Rattle.sal_run.specs.declared.clients.SeatedRun.{SeatedRun}
use Rattle.sal_run.specs.Looked.{late_looks}
use Rattle.sal_run.specs.Stands.{HasEnded}

-- The client is at the beginning of the program of its number, and its seat, of that number too, has no entries.
pub record IsNew (tables : List Versions) (turn : TableId) (programs : List (List ScriptStep)) (s : SeatedRun) : Type 0 where
  pub there : IsSome s.seat
  pub lock : (inside s.seat).lock ≡ turn
  pub number : s.run.client.number ≡ (inside s.seat).view.number
  pub has : s.run.client.number < length programs
  pub at : s.run.at ≡ 0
  pub client : client_of s.run.client ≡ new_client
  pub sound : (log : HubHistory) → IsSound log s.run.client
  pub reads : tables ≡ versions_of (known (inside s.seat).view).world
  pub own : (inside s.seat).view.own ≡ []
  pub none : entries_by maker_of (inside s.seat).view.number (inside s.seat).view.seen ≡ []

-- The client of a seat after its run: its entries are at most as many as its steps. If it reached its end, they are its calls, each
-- once and in its order, along the log that the seat has seen, and it has a reply to each of its steps; and the seat took at least
-- the largest number of looks for each mark that was late. It was stopped by a full history only if the seat has seen one.
pub record Worked (tables : List Versions) (lock : TableId) (programs : List (List ScriptStep)) (before : Place Entry (List Domain)) (f : SeatedRun) : Type 0 where
  pub there : IsSome f.seat
  pub keeps : Keeps lock before (inside f.seat)
  pub few : (steps : List ScriptStep) → slice_get programs before.view.number ≡ Some steps → length (inside f.seat).view.own ≤ length steps
  pub ended : OnOk f.end ((steps : List ScriptStep) → slice_get programs before.view.number ≡ Some steps → HasEnded tables steps (inside f.seat).view f.run)
  pub replied : OnOk f.end ((steps : List ScriptStep) → slice_get programs before.view.number ≡ Some steps → length (replies_in f.run) ≡ length steps)
  pub looks : OnOk f.end ((steps : List ScriptStep) → slice_get programs before.view.number ≡ Some steps → before.view.turns + 4194304 * late_looks (exchanges_of (moves_of steps) (replies_in f.run)) ≤ (inside f.seat).view.turns)
  pub full : f.end ≡ Err HistoryFull → limit ≤ length (inside f.seat).view.seen
