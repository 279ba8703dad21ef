-- What a call leaves is what a turn may leave, and what the seat knows then.
use Rattle.std.proofs.Common.{◌≡◌, ℕ, List, [], ◌∷◌, ◌++◌, length, drop, Option, None, Some, Result, Ok, Err, inl, inr, refl, ap, sym, ◌∙◌, append-nil, arith}
use Rattle.std.proofs.lemmas.List.{drop_all, drop_at}
use Rattle.std.specs.Prelude.{IsSome, unwrap_or}
use mathlib.Core.List.{IsPrefix}
use Rattle.sal_rows.specs.declared.outcome.CallFault.{CallFault}
use Rattle.sal_rows.specs.declared.outcome.CallFault.TheVariants.{HistoryFull, PipelineFull, NoDomain, NoListener, TooManyListeners, NoProvider, ProviderTaken, NoCall, NoteRejected, MountTaken, DeviceUsed, PreviousOpen, ChainFailed, ChainClosed, TxSpent, WrongVersion, UpgradeBreach, NoMemory}
use Rattle.sal_history.specs.World.{Domain}
use Rattle.sal_history.specs.declared.call.Call.{Call}
use Rattle.sal_history.specs.declared.call.Entry.{Entry}
use Rattle.sal_history.specs.declared.reply.Reply.{Reply}
use Rattle.sal_turn.specs.Entries.{Leaves, entries_by}
use Rattle.sal_turn.specs.Views.{SameRights}
use Rattle.sal_turn.proofs.Grown.{own_then}
use Rattle.sal_hub.specs.Answers.{Calls, CallsOr, Fails, Made}
use Rattle.sal_hub.specs.HubHistory.{HubHistory, entry_of}
use Rattle.sal_broker.specs.Seats.{SeatView, client_of}
use Rattle.sal_broker.specs.Turns.{OneMoreAtMost, TurnOf}

-- ---- what a call leaves

made_adds : (v : SeatView) (found left : HubHistory) (e : Entry) (r : Reply) → e.client ≡ v.number → Made found left e r → OneMoreAtMost v found left
made_adds v found left e r own made = inr (e, own, made.log)

fails_add : (v : SeatView) (found left : HubHistory) (e : Entry) (fault : CallFault) → e.client ≡ v.number → Fails found left e fault → OneMoreAtMost v found left
fails_add v found left e HistoryFull own fails = inl fails.1
fails_add v found left e NoMemory own fails = inl fails
fails_add v found left e PipelineFull own fails = made_adds v found left e _ own fails
fails_add v found left e (NoDomain id) own fails = made_adds v found left e _ own fails
fails_add v found left e (NoListener id) own fails = made_adds v found left e _ own fails
fails_add v found left e TooManyListeners own fails = made_adds v found left e _ own fails
fails_add v found left e (NoProvider rpc) own fails = made_adds v found left e _ own fails
fails_add v found left e (ProviderTaken rpc) own fails = made_adds v found left e _ own fails
fails_add v found left e (NoCall id) own fails = made_adds v found left e _ own fails
fails_add v found left e (NoteRejected subscriber) own fails = made_adds v found left e _ own fails
fails_add v found left e (MountTaken id) own fails = made_adds v found left e _ own fails
fails_add v found left e (DeviceUsed id) own fails = made_adds v found left e _ own fails
fails_add v found left e PreviousOpen own fails = made_adds v found left e _ own fails
fails_add v found left e (ChainFailed receipt) own fails = made_adds v found left e _ own fails
fails_add v found left e ChainClosed own fails = made_adds v found left e _ own fails
fails_add v found left e TxSpent own fails = made_adds v found left e _ own fails
fails_add v found left e (WrongVersion have) own fails = made_adds v found left e _ own fails
fails_add v found left e (UpgradeBreach store path rule) own fails = made_adds v found left e _ own fails

module _ {X : Type 0} (v : SeatView) (found left : HubHistory) (client : ℕ) (call : Call) (good : X → Reply) where
  pub calls_add : (result : Result X CallFault) → client ≡ v.number → Calls found left (entry_of found client call) good result → OneMoreAtMost v found left
  calls_add (Ok x) own made = made_adds v found left (entry_of found client call) _ own made
  calls_add (Err fault) own fails = fails_add v found left (entry_of found client call) fault own fails

  pub calls_or_add : {Y : Type 0} (given : Y) (result : Result X (Y × CallFault)) → client ≡ v.number → CallsOr found left (entry_of found client call) good given result → OneMoreAtMost v found left
  calls_or_add given (Ok x) own made = made_adds v found left (entry_of found client call) _ own made
  calls_or_add given (Err back) own fails = fails_add v found left (entry_of found client call) back.1 own fails.1

-- ---- what the seat knows then

pub is_some_of : (o : Option (List Domain)) → IsSome o → o ≡ Some (unwrap_or o [])
is_some_of (Some x) is = refl
is_some_of None is = cc

same_world : (v : SeatView) (found left : HubHistory) → OneMoreAtMost v found left → left.world ≡ found.world
same_world v found left (inl same) = ap (λ (k : HubHistory). k.world) same
same_world v found left (inr (e, own, more)) = ap (λ (k : HubHistory). k.world) more

pub left_turn : (v w : SeatView) (found left : HubHistory) → v.ground ≡ Some found.world → IsPrefix v.seen found.log → entries_by client_of v.number found.log ≡ v.own
    → SameRights v w → OneMoreAtMost v found left → w.seen ≡ left.log → Leaves client_of v.number found.log v.own left.log w.own → TurnOf v v.number found left w
left_turn v w found left ground seen mine rights added now leaves = record {
  number = refl;
  over = ground;
  seen = seen;
  mine = mine;
  now = λ i. record { world = worlds i; log = now i };
  own = own_then client_of v.number found.log v.own left.log w.own leaves;
}
  where
    worlds : unwrap_or w.ground [] ≡ left.world
    worlds = ap (λ (o : Option (List Domain)). unwrap_or o []) (rights.1 ∙ ground) ∙ sym (same_world v found left added)
