-- An update: tries of a client one after another, each but the last ended in a conflict. A try is a begin, the client's work in the transaction,
-- a submission and a settlement; each of the three calls is a turn of the client's seat, with an entry in the log.
use Rattle.std.specs.Prelude.{◌≡◌, ◌≤◌, ℕ, zero, suc, Bool, true, false, None, Ok, Err, Result, IfOk}
use Rattle.sal_rows.specs.declared.outcome.CallFault.{CallFault}
use Rattle.sal_rows.specs.declared.outcome.Outcome.{Outcome}
use Rattle.sal_rows.specs.declared.outcome.Outcome.TheVariants.{Done, Conflict, Invalid, ChainFailed, Unmounted}
use Rattle.sal_tx.specs.declared.tx.Tx.TheVariants.{Write}
use Rattle.sal_tx.specs.declared.writing.Writing.{Writing}
use Rattle.sal_history.specs.declared.call.Call.{Call}
use Rattle.sal_history.specs.declared.call.Call.TheVariants.{Begin, Settle, Submit}
use Rattle.sal_history.specs.declared.reply.Reply.{Reply}
use Rattle.sal_history.specs.declared.reply.Reply.TheVariants.{Begun, Receipt as Numbered, Settled}
use Rattle.sal_hub.specs.declared.receipt.Receipt.{Receipt}
use Rattle.sal_hub.specs.Answers.{Fails, Made}
use Rattle.sal_hub.specs.HubHistory.{HubHistory, entry_of}
use Rattle.sal_hub.specs.Tokens.{IsFresh, IsGiven}
use Rattle.sal_broker.specs.Seats.{SeatView}
use Rattle.sal_broker.specs.Turns.{InTurn}
use Rattle.sal_update.specs.declared.retry.Tries.{Tries}
use Rattle.sal_update.specs.declared.retry.UpdateFault.{UpdateFault}
use Rattle.sal_update.specs.declared.retry.UpdateFault.TheVariants as stopped

-- ---- one call

-- in a turn of the seat, which knew v and then w, this call of its client was made, and this is the model's reply
abbrev pub Makes : SeatView → SeatView → Call → Reply → Type 0
Makes v w call reply = InTurn v w (λ client found left. Made found left (entry_of found client call) reply)

-- in a turn of the seat this call of its client failed so
abbrev pub Misses : SeatView → SeatView → Call → CallFault → Type 0
Misses v w call fault = InTurn v w (λ client found left. Fails found left (entry_of found client call) fault)

-- in a turn of the seat this transaction began, without operations
abbrev pub Begins : Tries → SeatView → SeatView → Writing → Type 0
Begins sought v w tx =
    InTurn v w (λ client found left. Made found left (entry_of found client (Begin sought.domain sought.mode)) (Begun tx.begun.base_commit tx.begun.on) × IsFresh found sought.domain None sought.mode (Write tx))

-- ---- one try, by the place at which it ended

abbrev pub is_conflict : Outcome → Bool
is_conflict (Conflict store path kind commit) = true
is_conflict (Done commit) = false
is_conflict (Invalid store path rule) = false
is_conflict (ChainFailed receipt) = false
is_conflict (Unmounted domain) = false

-- the receipt that a failed settlement leaves was given
abbrev pub IsKept : {E : Type 0} → HubHistory → UpdateFault E → Type 0
IsKept known (stopped.Begin fault) = Unit {0}
IsKept known (stopped.Work fault) = Unit {0}
IsKept known (stopped.Submit fault) = Unit {0}
IsKept known (stopped.Settle receipt fault) = IsGiven known receipt

-- two transactions that differ in their operations at most
abbrev pub IsSameTx : Writing → Writing → Type 0
IsSameTx old new = (new.begun ≡ old.begun) × (new.mode ≡ old.mode) × (new.base ≡ old.base)

module _ {E : Type 0} where
  -- the receipt was settled, with this result
  abbrev pub EndsSettled : SeatView → Receipt → Result Outcome (UpdateFault E) → SeatView → Type 0
  EndsSettled v receipt (Ok outcome) w = Makes v w (Settle receipt.number) (Settled receipt.domain outcome)
  EndsSettled v receipt (Err (stopped.Settle left fault)) w = (left ≡ receipt) × Misses v w (Settle receipt.number) fault
  EndsSettled v receipt (Err (stopped.Begin fault)) w = ⊥
  EndsSettled v receipt (Err (stopped.Work fault)) w = ⊥
  EndsSettled v receipt (Err (stopped.Submit fault)) w = ⊥

  -- the transaction was submitted, and its receipt settled
  abbrev pub EndsSubmitted : SeatView → Writing → Result Outcome (UpdateFault E) → SeatView → Type 0
  EndsSubmitted v tx (Err (stopped.Submit fault)) w = Misses v w (Submit tx.begun.place tx.changes) fault
  EndsSubmitted v tx result w = (sent : SeatView) × (receipt : Receipt) × Makes v sent (Submit tx.begun.place tx.changes) (Numbered receipt.number) × EndsSettled sent receipt result w

-- `gives` relates the client's work and the transaction, before it and after it, by the work's answer.
module _ {W E : Type 0} (gives : W → Writing → Result (Unit {0}) E → W → Writing → Type 0) where
  -- the work was done in the transaction, which was then submitted
  abbrev pub EndsWorked : SeatView → W → Writing → Result Outcome (UpdateFault E) → SeatView → W → Type 0
  EndsWorked v s tx (Err (stopped.Work fault)) w t = (written : Writing) × gives s tx (Err fault) t written × (w ≡ v)
  EndsWorked v s tx result w t = (written : Writing) × gives s tx (Ok tt) t written × IsSameTx tx written × EndsSubmitted v written result w

  -- one try with this result, from the seat's knowledge v to w, and from the work s to t
  abbrev pub IsTry : Tries → SeatView → W → Result Outcome (UpdateFault E) → SeatView → W → Type 0
  IsTry sought v s (Err (stopped.Begin fault)) w t = Misses v w (Begin sought.domain sought.mode) fault × (t ≡ s)
  IsTry sought v s result w t = (began : SeatView) × (tx : Writing) × Begins sought v began tx × EndsWorked began s tx result w t

  -- ---- tries one after another

  -- so many tries, each of which ended in a conflict
  abbrev pub Conflicts : Tries → ℕ → SeatView → W → SeatView → W → Type 0
  Conflicts sought zero v s w t = (w ≡ v) × (t ≡ s)
  Conflicts sought (suc n) v s w t =
      (mid : SeatView) × (m : W) × (outcome : Outcome) × Conflicts sought n v s mid m × IsTry sought mid m (Ok outcome) w t × (is_conflict outcome ≡ true)

  -- The result is that of the last try. Those before it ended in conflicts, and are no more than the update may begin again; it ends in one only
  -- after all of them.
  pub record IsUpdate (sought : Tries) (v : SeatView) (s : W) (result : Result Outcome (UpdateFault E)) (w : SeatView) (t : W) : Type 0 where
    pub conflicts : ℕ
    pub few : conflicts ≤ sought.again
    pub mid : SeatView
    pub work : W
    pub before : Conflicts sought conflicts v s mid work
    pub last : IsTry sought mid work result w t
    pub ends : IfOk result (λ outcome. is_conflict outcome ≡ true → conflicts ≡ sought.again)
