-- Seats for the clients of a run, and their seats joined again.
use Rattle.std.specs.Prelude.{◌≡◌, ◌++◌, ℕ, zero, suc, List, [], ◌∷◌, Ok, Err, Result, Some, IsSome, length, map, slice_get, true}
use mathlib.Core.List.{IsPrefix}
use Rattle.sal_history.specs.declared.call.Entry.{Entry}
use Rattle.sal_history.specs.World.{Domain}
use Rattle.sal_turn.specs.Seats.{Place, TableId}
use Rattle.sal_turn.specs.Views.{newcomer}
use Rattle.sal_broker.specs.Seats.{SeatView, inside}
use Rattle.sal_hub.specs.HubHistory.{HubHistory}
use Rattle.sal_script.specs.declared.reply.StepReply.{StepReply}
use Rattle.sal_script.specs.Play.{new_client}
use Rattle.sal_client.specs.declared.wish.RunFault.{RunFault}
use Rattle.sal_client.specs.declared.wish.RunFault.TheVariants.{HistoryFull}
use Rattle.sal_client.specs.Clients.{IsSound, client_of}
use Rattle.sal_client.specs.Runs.{replies_in}
use Rattle.sal_run.specs.declared.clients.SeatedRun.{SeatedRun}

-- the numbers below n
abbrev pub upto : ℕ → List ℕ
upto zero = []
upto (suc n) = upto n ++ n ∷ []

-- a client before its first step, with a new seat of its number split from the giver's
pub record IsSeated (turn : TableId) (giver : SeatView) (n : ℕ) (s : SeatedRun) : Type 0 where
  pub there : IsSome s.seat
  pub lock : (inside s.seat).lock ≡ turn
  pub view : (inside s.seat).view ≡ newcomer n giver
  pub number : s.run.client.number ≡ n
  pub at : s.run.at ≡ 0
  pub client : client_of s.run.client ≡ new_client
  pub sound : (known : HubHistory) → IsSound known s.run.client

-- one for each number below n
pub record AreSeated (lock : TableId) (giver : SeatView) (n : ℕ) (runs : List SeatedRun) : Type 0 where
  pub long : length runs ≡ n
  pub each : (i : ℕ) (s : SeatedRun) → slice_get runs i ≡ Some s → IsSeated lock giver i s

-- the replies of a client, after the others', unless one of them stopped
abbrev pub with_replies : Result (List (List StepReply)) RunFault → Result (Unit {0}) RunFault → List StepReply → Result (List (List StepReply)) RunFault
with_replies (Ok list) (Ok done) replies = Ok (list ++ replies ∷ [])
with_replies (Ok list) (Err fault) replies = Err fault
with_replies (Err fault) end replies = Err fault

-- the number of a client's seat, and its entries
abbrev pub named : SeatedRun → ℕ × List Entry
named f = ((inside f.seat).view.number, (inside f.seat).view.own)

-- the seat that knew v with all that the clients' seats knew
pub record Joins (turn : TableId) (v : SeatView) (fs : List SeatedRun) (place : Place Entry (List Domain)) : Type 0 where
  pub lock : place.lock ≡ turn
  pub number : place.view.number ≡ v.number
  pub ground : place.view.ground ≡ v.ground
  pub own : place.view.own ≡ v.own
  pub rights : v.splits ≡ true → (place.view.splits ≡ true) × (place.view.given ≡ v.given)
  pub joined : place.view.joined ≡ map named fs
  pub seen : (i : ℕ) (f : SeatedRun) → slice_get fs i ≡ Some f → IsPrefix (inside f.seat).view.seen place.view.seen

-- The results of the clients: if it is all of their replies each has ended, and a full history was found by one of them.
pub record Collects (fs : List SeatedRun) (replies : Result (List (List StepReply)) RunFault) : Type 0 where
  pub all : (list : List (List StepReply)) → replies ≡ Ok list → list ≡ map (λ (f : SeatedRun). replies_in f.run) fs
  pub ended : (list : List (List StepReply)) → replies ≡ Ok list → (i : ℕ) (f : SeatedRun) → slice_get fs i ≡ Some f → f.end ≡ Ok tt
  pub full : replies ≡ Err HistoryFull → (i : ℕ) × (f : SeatedRun) × (slice_get fs i ≡ Some f) × (f.end ≡ Err HistoryFull)
