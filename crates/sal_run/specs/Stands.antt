-- The place of a client with a seat between two turns.
use Rattle.std.specs.Prelude.{◌≡◌, ℕ, List, [], Some}
use mathlib.Core.List.{IsPrefix}
use Rattle.sal_history.specs.declared.call.Entry.{Entry}
use Rattle.sal_turn.specs.Entries.{entries_by}
use Rattle.sal_turn.specs.Seats.{TableId}
use Rattle.sal_turn.specs.Views.{SameRights}
use Rattle.sal_broker.specs.Seats.{Holding, SeatView, client_of as maker_of, known}
use Rattle.sal_hub.specs.HubHistory.{HubHistory}
use Rattle.sal_script.specs.declared.script.ScriptStep.{ScriptStep}
use Rattle.sal_script.specs.Along.{IsAt}
use Rattle.sal_script.specs.Moves.{moves_of}
use Rattle.sal_script.specs.Play.{Run}
use Rattle.sal_script.specs.Tables.{Versions, versions_of}
use Rattle.sal_client.specs.declared.run.ClientRun.{ClientRun as CodeRun}
use Rattle.sal_client.specs.Clients.{IsSound, client_of}
use Rattle.sal_client.specs.Runs.{IsProgram}

-- Client c with these steps is at this run: along the log it made exactly its own calls there.
pub record StandsIn (tables : List Versions) (steps : List ScriptStep) (c : ℕ) (log : HubHistory) (own : List Entry) (r : CodeRun) (now : Run) : Type 0 where
  pub number : r.client.number ≡ c
  pub reads : tables ≡ versions_of log.world
  pub whole : entries_by maker_of c log.log ≡ own
  pub program : IsProgram steps r
  pub sound : IsSound log r.client
  pub at : IsAt tables log.world c (moves_of steps) log.log now

-- so it is with the client of a seat, along the log that the seat has seen
abbrev pub Stands : List Versions → List ScriptStep → SeatView → CodeRun → Run → Type 0
Stands tables steps v r now = StandsIn tables steps v.number (known v) v.own r now

-- the client of a seat has reached its end
pub record HasEnded (tables : List Versions) (steps : List ScriptStep) (v : SeatView) (r : CodeRun) : Type 0 where
  pub whole : entries_by maker_of v.number v.seen ≡ v.own
  pub at : IsAt tables (known v).world v.number (moves_of steps) v.seen (record { client = client_of r.client; steps = [] })

-- a turn of a seat that knew v, before any call in it
pub record Enters (turn : TableId) (v : SeatView) (h : Holding) : Type 0 where
  pub lock : h.lock ≡ turn
  pub rights : SameRights v h.view
  pub own : h.view.own ≡ v.own
  pub hub : h.hub ≡ h.found
  pub world : v.ground ≡ Some h.found.world
  pub seen : IsPrefix v.seen h.found.log
  pub mine : entries_by maker_of v.number h.found.log ≡ v.own
