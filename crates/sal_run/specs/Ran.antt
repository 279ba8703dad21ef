-- The clients of a run, with their seats joined to the opening one.
use Rattle.std.specs.Prelude.{◌≡◌, ℕ, List, [], ◌∷◌, Result, Some, length, slice_get, true}
use Rattle.sal_history.specs.declared.call.Entry.{Entry}
use Rattle.sal_history.specs.World.{Domain}
use Rattle.sal_turn.specs.Seats.{Place, TableId}
use Rattle.sal_turn.specs.Views.{newcomer}
use Rattle.sal_broker.specs.Seats.{SeatView}
use Rattle.sal_script.specs.declared.reply.StepReply.{StepReply}
use Rattle.sal_script.specs.declared.script.ScriptStep.{ScriptStep}
use Rattle.sal_script.specs.Tables.{Versions}
use Rattle.sal_client.specs.declared.wish.RunFault.{RunFault}
use Rattle.sal_run.specs.declared.clients.SeatedRun.{SeatedRun}
use Rattle.sal_run.specs.Joined.{Collects, Joins, upto}
use Rattle.sal_run.specs.Worked.{Worked}

-- the opening seat of the lock, which has given no number and has seen nothing
pub record IsOpening (turn : TableId) (p : Place Entry (List Domain)) : Type 0 where
  pub lock : p.lock ≡ turn
  pub number : p.view.number ≡ 65535
  pub seen : p.view.seen ≡ []
  pub own : p.view.own ≡ []
  pub splits : p.view.splits ≡ true
  pub given : p.view.given ≡ 65535 ∷ []
  pub joined : p.view.joined ≡ []

-- Each client of the programs ran its own at a seat split from the opening one, that knew v, and was joined to this seat again.
pub record AreRan (tables : List Versions) (lock : TableId) (programs : List (List ScriptStep)) (v : SeatView) (place : Place Entry (List Domain)) (replies : Result (List (List StepReply)) RunFault) : Type 0 where
  pub clients : List SeatedRun
  pub long : length clients ≡ length programs
  pub each : (i : ℕ) (f : SeatedRun) → slice_get clients i ≡ Some f → Worked tables lock programs (record { lock = lock; view = newcomer i v }) f
  pub joins : Joins lock (record v { given = 65535 ∷ upto (length programs) }) clients place
  pub collects : Collects clients replies
