-- What a call's turn says of one of its two results, and what it keeps.
use Rattle.std.proofs.Common.{◌≡◌, List, [], ◌∷◌, ◌++◌, Option, Some, None, Result, Ok, Err, inl, inr, refl, sym, subst}
use Rattle.std.specs.Prelude.{◌≢◌, IfOk, unwrap_or}
use mathlib.Core.List.{IsPrefix}
use Rattle.sal_rows.specs.declared.outcome.CallFault.{CallFault}
use Rattle.sal_rows.specs.declared.outcome.Mode.TheVariants.{Ro}
use Rattle.sal_tx.specs.declared.tx.ReadTx.{ReadTx}
use Rattle.sal_tx.specs.declared.tx.Tx.{Tx}
use Rattle.sal_tx.specs.declared.tx.Tx.TheVariants.{Read, Write}
use Rattle.sal_tx.specs.declared.writing.Writing.{Writing}
use Rattle.sal_history.specs.declared.call.Call.{Call}
use Rattle.sal_history.specs.declared.call.Call.TheVariants.{Begin}
use Rattle.sal_history.specs.declared.call.Entry.{Entry}
use Rattle.sal_history.specs.declared.reply.Reply.TheVariants.{Accepted, Begun}
use Rattle.sal_history.specs.World.{Domain}
use Rattle.sal_hub.specs.declared.receipt.Receipt.{Receipt}
use Rattle.sal_hub.specs.Answers.{Calls, Fails}
use Rattle.sal_hub.specs.HubHistory.{HubHistory, entry_of}
use Rattle.sal_hub.specs.Tokens.{IsFresh, IsGiven, begun_of}
use Rattle.sal_broker.specs.Seats.{SeatView, known}
use Rattle.sal_broker.specs.Tokens.{TokensStay, with_log}
use Rattle.sal_broker.specs.Turns.{InTurn, OneMoreAtMost}
use Rattle.sal_broker.proofs.Leaving.{calls_add}
use Rattle.sal_update.specs.declared.retry.Tries.{Tries}
use Rattle.sal_update.specs.Updates.{Begins, Misses}

-- a fault that returns another value too
pub missed_or : {Y : Type 0} (v w : SeatView) (call : Call) (fault : CallFault) (given back : Y) → InTurn v w (λ client found left. (back ≡ given) × Fails found left (entry_of found client call) fault) → Misses v w call fault
missed_or v w call fault given back was = (was.0, (was.1.0, was.1.1, was.1.2, was.1.3.1, was.1.4))

-- ---- a begin

abbrev pub AnsweredBegin : Tries → SeatView → SeatView → Result Tx CallFault → Type 0
AnsweredBegin sought v w result =
    InTurn v w (λ client found left. Calls found left (entry_of found client (Begin sought.domain sought.mode)) (λ (tx : Tx). Begun (begun_of tx).base_commit (begun_of tx).on) result × IfOk result (IsFresh found sought.domain None sought.mode))

module _ (sought : Tries) (v w : SeatView) where
  pub began : (it : Tx) (tx : Writing) → it ≡ Write tx → AnsweredBegin sought v w (Ok it) → Begins sought v w tx
  began it tx write turn = subst (λ (t : Tx). AnsweredBegin sought v w (Ok t)) write turn

  pub not_begun : (fault : CallFault) → AnsweredBegin sought v w (Err fault) → Misses v w (Begin sought.domain sought.mode) fault
  not_begun fault was = (was.0, (was.1.0, was.1.1, was.1.2, was.1.3.0, was.1.4))

  -- a transaction that only reads is of another mode
  pub not_read : (it : Tx) (tx : ReadTx) → it ≡ Read tx → AnsweredBegin sought v w (Ok it) → sought.mode ≢ Ro → ⊥
  not_read it tx read turn writes =
      let was = subst (λ (t : Tx). AnsweredBegin sought v w (Ok t)) read turn in
      writes (sym was.1.3.1.mode)

-- ---- what a turn keeps

module _ (law : (hub : HubHistory) (log : List Entry) → IsPrefix hub.log log → TokensStay hub (with_log hub log)) where
  found_keeps : (v : SeatView) (found : HubHistory) → v.ground ≡ Some found.world → IsPrefix v.seen found.log → TokensStay (known v) found
  found_keeps v found world seen = subst (λ (o : Option (List Domain)). TokensStay (known v) (record { world = unwrap_or o []; log = found.log })) world (law (known v) found.log seen)

  left_keeps : (v : SeatView) (found left : HubHistory) (receipt : Receipt) → OneMoreAtMost v found left → IsGiven found receipt → IsGiven left receipt
  left_keeps v found left receipt (inl same) given = subst (λ (h : HubHistory). IsGiven h receipt) (sym same) given
  left_keeps v found left receipt (inr (e, own, more)) given = subst (λ (h : HubHistory). IsGiven h receipt) (sym more) ((law found (found.log ++ e ∷ []) (e ∷ [], refl)).given receipt given)

  -- a receipt that was given is so after the turn of a call that failed
  pub still_given : (v w : SeatView) (call : Call) (fault : CallFault) (receipt : Receipt) → Misses v w call fault → IsGiven (known v) receipt → IsGiven (known w) receipt
  still_given v w call fault receipt missed given =
      let turn = missed.1.4 in
      let added = calls_add v missed.1.1 missed.1.2 missed.1.0 call (λ (o : Unit {0}). Accepted) (Err fault) turn.number missed.1.3 in
      subst (λ (h : HubHistory). IsGiven h receipt) (sym turn.now) (left_keeps v missed.1.1 missed.1.2 receipt added ((found_keeps v missed.1.1 turn.over turn.seen).given receipt given))
