-- A try that went on after its first calls ends as what came after them; and one conflict more.
use Rattle.std.proofs.Common.{◌≡◌, ◌+◌, ℕ, suc, true, Result, Ok, Err, subst, arith}
use Rattle.sal_rows.specs.declared.outcome.Outcome.{Outcome}
use Rattle.sal_tx.specs.declared.writing.Writing.{Writing}
use Rattle.sal_history.specs.declared.call.Call.TheVariants.{Submit}
use Rattle.sal_history.specs.declared.reply.Reply.TheVariants.{Receipt as Numbered}
use Rattle.sal_hub.specs.declared.receipt.Receipt.{Receipt}
use Rattle.sal_broker.specs.Seats.{SeatView}
use Rattle.sal_update.specs.declared.retry.Tries.{Tries}
use Rattle.sal_update.specs.declared.retry.UpdateFault.{UpdateFault}
use Rattle.sal_update.specs.declared.retry.UpdateFault.TheVariants as stopped
use Rattle.sal_update.specs.Updates.{Begins, Conflicts, EndsSettled, EndsSubmitted, EndsWorked, IsSameTx, IsTry, Makes, is_conflict}

module _ {E : Type 0} where
  pub submitted_then : (v sent w : SeatView) (tx : Writing) (receipt : Receipt) (result : Result Outcome (UpdateFault E)) → Makes v sent (Submit tx.begun.place tx.changes) (Numbered receipt.number) → EndsSettled sent receipt result w
      → EndsSubmitted v tx result w
  submitted_then v sent w tx receipt (Ok outcome) makes ends = (sent, receipt, makes, ends)
  submitted_then v sent w tx receipt (Err (stopped.Begin fault)) makes ends = (sent, receipt, makes, ends)
  submitted_then v sent w tx receipt (Err (stopped.Work fault)) makes ends = (sent, receipt, makes, ends)
  submitted_then v sent w tx receipt (Err (stopped.Submit fault)) makes ends = absurd ends
  submitted_then v sent w tx receipt (Err (stopped.Settle left fault)) makes ends = (sent, receipt, makes, ends)

module _ {W E : Type 0} (gives : W → Writing → Result (Unit {0}) E → W → Writing → Type 0) where
  pub worked_then : (v w : SeatView) (s t : W) (tx written : Writing) (result : Result Outcome (UpdateFault E)) → gives s tx (Ok tt) t written → IsSameTx tx written → EndsSubmitted v written result w
      → EndsWorked gives v s tx result w t
  worked_then v w s t tx written (Ok outcome) does same ends = (written, does, same, ends)
  worked_then v w s t tx written (Err (stopped.Begin fault)) does same ends = (written, does, same, ends)
  worked_then v w s t tx written (Err (stopped.Work fault)) does same ends = absurd ends.3
  worked_then v w s t tx written (Err (stopped.Submit fault)) does same ends = (written, does, same, ends)
  worked_then v w s t tx written (Err (stopped.Settle left fault)) does same ends = (written, does, same, ends)

  pub tried_then : (sought : Tries) (v began w : SeatView) (s t : W) (tx : Writing) (result : Result Outcome (UpdateFault E)) → Begins sought v began tx → EndsWorked gives began s tx result w t → IsTry gives sought v s result w t
  tried_then sought v began w s t tx (Ok outcome) begins ends = (began, tx, begins, ends)
  tried_then sought v began w s t tx (Err (stopped.Begin fault)) begins ends = absurd ends.3.3
  tried_then sought v began w s t tx (Err (stopped.Work fault)) begins ends = (began, tx, begins, ends)
  tried_then sought v began w s t tx (Err (stopped.Submit fault)) begins ends = (began, tx, begins, ends)
  tried_then sought v began w s t tx (Err (stopped.Settle left fault)) begins ends = (began, tx, begins, ends)

  pub one_more : (sought : Tries) (n : ℕ) (v mid w : SeatView) (s m t : W) (outcome : Outcome) → Conflicts gives sought n v s mid m → IsTry gives sought mid m (Ok outcome) w t → is_conflict outcome ≡ true
      → Conflicts gives sought (n + 1) v s w t
  one_more sought n v mid w s m t outcome before last conflict =
      let next : suc n ≡ n + 1 = omega arith in
      subst (λ (k : ℕ). Conflicts gives sought k v s w t) next (mid, m, outcome, before, last, conflict)
