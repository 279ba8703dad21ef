-- How each kind of step is answered.
use Rattle.std.proofs.Common.{◌≡◌, ℕ, List, [], ◌∷◌, ◌++◌, length, Option, None, Some, Result, Ok, Err, inl, refl, ap, sym, ◌∙◌, subst, arith}
use Rattle.sal_types.specs.declared.value.Store.{Store}
use Rattle.sal_types.specs.declared.value.Step.{Step}
use Rattle.sal_rows.specs.declared.op.Op.{Op}
use Rattle.sal_rows.specs.declared.op.Act.{Act}
use Rattle.sal_rows.specs.declared.outcome.Mode.{Mode}
use Rattle.sal_rows.specs.declared.outcome.Mode.TheVariants.{Ro, Wo, Rw, Checked}
use Rattle.sal_rows.specs.declared.outcome.CallFault.{CallFault}
use Rattle.sal_rows.specs.declared.outcome.CallFault.TheVariants.{ChainClosed, ChainFailed, DeviceUsed, HistoryFull, MountTaken, NoCall, NoDomain, NoListener, NoMemory, NoProvider, NoteRejected, PipelineFull, PreviousOpen, ProviderTaken, TooManyListeners, TxSpent, UpgradeBreach, WrongVersion}
use Rattle.sal_schema.specs.declared.table.SchemaTable.{SchemaTable}
use Rattle.sal_history.specs.World.{Domain}
use Rattle.sal_history.specs.declared.call.Call.{Call}
use Rattle.sal_history.specs.declared.call.Call.TheVariants.{Submit as SubmitCall, Cancel as CancelCall}
use Rattle.sal_history.specs.declared.call.Entry.{Entry}
use Rattle.sal_history.specs.declared.reply.Reply.{Reply}
use Rattle.sal_history.specs.declared.reply.Reply.TheVariants.{Refused}
use Rattle.sal_tx.specs.declared.begun.Begun.{Begun}
use Rattle.sal_tx.specs.declared.tx.Tx.{Tx}
use Rattle.sal_tree.specs.declared.commit.Pair.{Pair}
use Rattle.sal_history.specs.History.{Answered, answered_as, history, reply_to}
use Rattle.sal_history.specs.Versions.{schema_version, version_at}
use Rattle.sal_history.proofs.Versions.{version_at-now, version_at-stays}
use Rattle.sal_pathtext.specs.declared.fault.PathTextFault.{PathTextFault}
use Rattle.sal_pathtext.specs.Read.{read_path}
use Rattle.sal_data.specs.declared.fault.DataFault.{DataFault}
use Rattle.sal_script.specs.Moves.{Move}
use Rattle.sal_script.specs.declared.reply.StepReply.{StepReply}
use Rattle.sal_script.specs.declared.reply.StepReply.TheVariants.{Called}
use Rattle.sal_script.specs.declared.reply.StepRefusal.{StepRefusal}
use Rattle.sal_script.specs.Play.{spot_after, version_for, Client, DataAct, Meeting, Open, Opened, Slots, act_of, cancel, domain_in, keep, keep_begun, meet, refused, set_slot, shared, submit, submit_in, write_at, write_in, write_op}
use Rattle.sal_script.specs.Tables.{Versions}
use Rattle.sal_hub.proofs.Histories.{history-push, length-history}
use Rattle.sal_hub.specs.Answers.{Fails, Made}
use Rattle.sal_hub.specs.HubHistory.{HubHistory, entry_of}
use Rattle.sal_hub.specs.Tokens.{IsBegun, IsFresh, begun_of}
use Rattle.sal_client.specs.declared.client.Standing.TheVariants.{Writable}
use Rattle.sal_client.specs.declared.wish.RunFault.{RunFault}
use Rattle.sal_client.specs.declared.wish.RunFault.TheVariants as stop
use Rattle.sal_client.specs.Clients.{Calls, IsWithin, open_of, standing_in, standing_of}
use Rattle.sal_client.specs.Operations.{op_at, op_by}
use Rattle.sal_client.specs.Wishes.{IsStop, Stops}

-- ---- shared calls

-- a call that was made, with its answer
pub called : (tables : List Versions) (r : StepReply) (c : ℕ) (known : HubHistory) (old : Client) (step : Move) (known' : HubHistory) (new : Client) (call : Call) (answer : Reply) → meet tables known.world known.log old step ≡ shared call → Made known known' (entry_of known c call) answer → r ≡ Called answer → new ≡ keep (spot_after known.world known.log) step answer old → Calls tables r c known old step known' new call
called tables r c known old step known' new call answer met made replied kept = record {
  met = met;
  entry = made.log;
  replied = replied ∙ ap Called (sym made.reply);
  kept = kept ∙ ap (λ q. keep (spot_after known.world known.log) step q old) (sym made.reply);
}

-- a fault that is neither a full history nor want of memory is an answer
pub made_refused : (old new : HubHistory) (e : Entry) (fault : CallFault) → Fails old new e fault → (fault ≡ HistoryFull → ⊥) → (fault ≡ NoMemory → ⊥) → Made old new e (Refused fault)
made_refused old new e HistoryFull fails full memory = absurd (full refl)
made_refused old new e NoMemory fails full memory = absurd (memory refl)
made_refused old new e PipelineFull fails full memory = fails
made_refused old new e (NoDomain id) fails full memory = fails
made_refused old new e (NoListener id) fails full memory = fails
made_refused old new e TooManyListeners fails full memory = fails
made_refused old new e (NoProvider rpc) fails full memory = fails
made_refused old new e (ProviderTaken rpc) fails full memory = fails
made_refused old new e (NoCall id) fails full memory = fails
made_refused old new e (NoteRejected subscriber) fails full memory = fails
made_refused old new e (MountTaken id) fails full memory = fails
made_refused old new e (DeviceUsed id) fails full memory = fails
made_refused old new e PreviousOpen fails full memory = fails
made_refused old new e (ChainFailed receipt) fails full memory = fails
made_refused old new e ChainClosed fails full memory = fails
made_refused old new e TxSpent fails full memory = fails
made_refused old new e (WrongVersion have) fails full memory = fails
made_refused old new e (UpgradeBreach store path rule) fails full memory = fails

-- a fault that stops the client
pub stopped : (old new : HubHistory) (e : Entry) (fault : CallFault) (stop : RunFault) → Fails old new e fault → IsStop fault stop → Stops e.client old new stop
stopped old new e fault stop.HistoryFull fails is = subst (Fails old new e) is fails
stopped old new e fault stop.NoMemory fails is = inl (subst (Fails old new e) is fails)

-- ---- begin

-- a domain of the world is one after a call, too
pub in_world : {known known' : HubHistory} {e : Entry} {answer : Reply} {asked domain : ℕ} → Made known known' e answer → asked ≡ domain → IsWithin (length known.world) asked → IsWithin (length known'.world) domain
in_world {known} {known'} {e} {answer} {asked} {domain} made same within =
    subst (λ n. IsWithin n domain) (ap (λ (k : HubHistory). length k.world) (sym made.log)) (subst (IsWithin (length known.world)) same within)

-- the version after a log is that at the place of its next entry
now_version : (world : List Domain) (log : List Entry) (e : Entry) → version_at (history world (log ++ e ∷ [])) (length log) ≡ schema_version (history world log)
now_version world log e =
    let past : List Answered = history world log in
    let now : Answered = answered_as world past e (reply_to world past e.client e.call) in
    let long : length past ≡ length log = length-history world log in
    ap (λ (h : List Answered). version_at h (length log)) (history-push world log e)
    ∙ version_at-stays past now (length log) (omega (arith, long))
    ∙ ap (version_at past) (sym long)
    ∙ version_at-now past

-- it is by the version that was present at the begin
pub begun_by : {known known' : HubHistory} {e : Entry} {answer : Reply} {under : Mode} (domain : ℕ) (begun : Begun) (trees : Pair) → Made known known' e answer → IsBegun known' begun under trees → begun.place ≡ length known.log → begun.domain ≡ domain
    → begun.version ≡ version_for domain (schema_version (history known.world known.log))
begun_by {known} {known'} {e} {answer} domain begun trees made is place of =
    let now : version_at (history known.world (known.log ++ e ∷ [])) (length known.log) ≡ schema_version (history known.world known.log) =
    now_version known.world known.log e in
    is.version
    ∙ (λ i. version_for (of i) (version_at (history (made.log i).world (made.log i).log) (place i)))
    ∙ ap (version_for domain) now

-- the transaction that a begin answers is in the slot
pub kept_begun : (known : HubHistory) (slot domain : ℕ) (member : Option ℕ) (mode : Mode) (tx : Tx) (old : Client) (f : Slots Open) → IsFresh known domain member mode tx → (begun_of tx).version ≡ version_for domain (schema_version (history known.world known.log)) → f ≡ set_slot slot (Some (open_of tx)) old.transactions → record old { transactions = f } ≡ keep_begun slot (spot_after known.world known.log) domain mode old
kept_begun known slot domain member mode tx old f fresh by filled =
    let same : open_of tx ≡ record { place = length known.log; domain = domain; version = version_for domain (schema_version (history known.world known.log)); mode = mode; ops = [] } = λ i. record { place = fresh.place i; domain = fresh.domain i; version = by i; mode = fresh.mode i; ops = fresh.ops i } in
    (λ i. record old { transactions = filled i }) ∙ (λ i. record old { transactions = set_slot slot (Some (same i)) old.transactions })

-- and one of a chain, whose domain is the chain's
pub kept_in_chain : (known : HubHistory) (number slot : ℕ) (chain : Opened) (mode : Mode) (tx : Tx) (old : Client) (f : Slots Open) → old.chains number ≡ Some chain → IsFresh known chain.domain (Some chain.id) mode tx → (begun_of tx).version ≡ version_for chain.domain (schema_version (history known.world known.log)) → f ≡ set_slot slot (Some (open_of tx)) old.transactions → record old { transactions = f } ≡ keep_begun slot (spot_after known.world known.log) (domain_in (old.chains number)) mode old
kept_in_chain known number slot chain mode tx old f found fresh by filled =
    kept_begun known slot chain.domain (Some chain.id) mode tx old f fresh by filled ∙ ap (λ o. keep_begun slot (spot_after known.world known.log) (domain_in o) mode old) (sym found)

-- ---- submit and cancel

submit_mode : (tx : Open) (m : Mode) (client : Client) → standing_in m ≡ Writable → submit_in tx m client ≡ shared (SubmitCall tx.place tx.ops)
submit_mode tx Ro client w = cc
submit_mode tx Wo client w = refl
submit_mode tx Rw client w = refl
submit_mode tx Checked client w = refl

pub submit-writable : (client : Client) (o : Option Open) (tx : Open) → o ≡ Some tx → standing_of o ≡ Writable → submit client o ≡ shared (SubmitCall tx.place tx.ops)
submit-writable client o tx e w = ap (submit client) e ∙ submit_mode tx tx.mode client (sym (ap standing_of e) ∙ w)

pub cancel-filled : (client : Client) (o : Option Open) (tx : Open) → o ≡ Some tx → cancel client o ≡ shared (CancelCall tx.place)
cancel-filled client o tx e = ap (cancel client) e

-- ---- writes

-- a slot that may be written holds a transaction that may write
pub opened_some : (o : Option Open) → standing_of o ≡ Writable → (tx : Open) × (o ≡ Some tx) × (standing_in tx.mode ≡ Writable)
opened_some None w = cc
opened_some (Some tx) w = (tx, refl, w)

module _ (table : SchemaTable) (world : List Domain) (log : List Entry) where
  -- what comes of a write whose operation was read so
  abbrev pub met_by : ℕ → Open → Client → Result Op StepRefusal → Meeting
  met_by slot tx client (Ok op) = write_op table world log slot op tx client
  met_by slot tx client (Err refusal) = refused refusal client

  write_by_act : (slot : ℕ) (store : Store) (path : List Step) (data_act : DataAct) (tx : Open) (client : Client) (read : Result Act DataFault) → act_of table path data_act ≡ read → write_at table world log slot store (Ok path) data_act tx client ≡ met_by slot tx client (op_at tx.domain store path read)
  write_by_act slot store path data_act tx client (Ok act) e = rw e refl
  write_by_act slot store path data_act tx client (Err fault) e = rw e refl

  write_at-by : (slot : ℕ) (store : Store) (data_act : DataAct) (tx : Open) (client : Client) (read : Result (List Step) PathTextFault) → write_at table world log slot store read data_act tx client ≡ met_by slot tx client (op_by table tx.domain store data_act read)
  write_at-by slot store data_act tx client (Err fault) = refl
  write_at-by slot store data_act tx client (Ok path) = write_by_act slot store path data_act tx client (act_of table path data_act) refl

  pub write-writable : (m : Mode) (slot : ℕ) (store : Store) (text : List ℕ) (data_act : DataAct) (tx : Open) (client : Client) (read : Result (List Step) PathTextFault) (made : Result Op StepRefusal) → standing_in m ≡ Writable → read ≡ read_path table text → made ≡ op_by table tx.domain store data_act read → write_in table world log m slot store text data_act tx client ≡ met_by slot tx client made
  write-writable Ro slot store text data_act tx client read made w is by = cc
  write-writable Wo slot store text data_act tx client read made w is by = ap (λ r. write_at table world log slot store r data_act tx client) (sym is) ∙ write_at-by slot store data_act tx client read ∙ ap (met_by slot tx client) (sym by)
  write-writable Rw slot store text data_act tx client read made w is by = ap (λ r. write_at table world log slot store r data_act tx client) (sym is) ∙ write_at-by slot store data_act tx client read ∙ ap (met_by slot tx client) (sym by)
  write-writable Checked slot store text data_act tx client read made w is by = ap (λ r. write_at table world log slot store r data_act tx client) (sym is) ∙ write_at-by slot store data_act tx client read ∙ ap (met_by slot tx client) (sym by)
