-- A client on its way through its steps: each is answered once, and the shared calls are its entries in the log.
use Rattle.std.proofs.Common.{◌≡◌, ℕ, Bool, true, false, List, [], ◌∷◌, ◌++◌, length, Option, None, Some, Result, Ok, Err, if◌then◌else◌, refl, ap, sym, ◌∙◌, subst, arith, append_assoc, append-nil, length-append, flat_map}
use Rattle.std.specs.Prelude.{⊤}
use Rattle.std.proofs.lemmas.Bool.{eq-eqb, ne_eqb}
use Rattle.std.proofs.lemmas.Grind.{flat_map-append}
use Rattle.std.proofs.lemmas.List.Sums.{fold-append}
use Rattle.sal_types.specs.declared.value.Store.{Store}
use Rattle.sal_types.specs.declared.value.Step.{Step}
use Rattle.sal_types.specs.declared.row.Row.{Row}
use Rattle.sal_types.specs.Reading.{◌>>=◌}
use Rattle.serde_json.specs.Data.{Data}
use Rattle.sal_rows.specs.declared.op.Act.{Act}
use Rattle.sal_rows.specs.declared.outcome.Mode.{Mode}
use Rattle.sal_rows.specs.declared.outcome.Mode.TheVariants.{Ro, Wo, Rw, Checked}
use Rattle.sal_history.specs.declared.call.Call.{Call}
use Rattle.sal_history.specs.declared.call.Call.TheVariants as called
use Rattle.sal_history.specs.declared.call.Entry.{Entry}
use Rattle.sal_history.specs.declared.reply.Reply.{Reply}
use Rattle.sal_history.specs.declared.reply.Reply.TheVariants.{Begun, Chain, Accepted as Done, Receipt, Listener as Listening, Batch, CallMade, Request}
use Rattle.sal_history.specs.World.{Domain}
use Rattle.sal_history.specs.History.{Answered, answer as answer_more, answered_as, entries_of, history, reply}
use Rattle.sal_schema.specs.declared.table.SchemaTable.{SchemaTable}
use Rattle.sal_pathtext.specs.declared.fault.PathTextFault.{PathTextFault}
use Rattle.sal_pathtext.specs.Read.{read_path}
use Rattle.sal_data.specs.declared.fault.DataFault.{DataFault}
use Rattle.sal_rules.specs.declared.fault.TxFault.{TxFault}
use Rattle.sal_rules.specs.Refusals.{refusal}
use Rattle.sal_script.specs.declared.reply.StepReply.{StepReply}
use Rattle.sal_script.specs.declared.reply.StepReply.TheVariants.{Called}
use Rattle.sal_script.specs.declared.reply.StepRefusal.TheVariants.{NoDevice, NoUpgrade}
use Rattle.sal_script.specs.Moves.{Move, Begin, Put, Merge, Delete, Read, Exists, Submit, Cancel, Settle, OpenChain, ChainBegin, CloseChain, Pump, Listen, Take, Unlisten, Mirror, Provide, Withdraw, Invoke, NextCall, Answer, Collect, Subscribe, Offer, TakeNotes, Mount, Unmount, MountAt, Mark, After, Upgrade}
use Rattle.sal_script.specs.Play.{Arrival, Spot, spot_after, upgrade, Client, DataAct, Listener, Made, Meeting, Open, Opened, Run, accept_unless, act_of, arrive, ask, arrive_by, calls, chain_begin, close_chain, deleting, ended, found, keep, listen, listen_at, local, look, look_at, look_reply, make, meet, merging, mirror, op_of, putting, refused, replied, rows_read, seen_by, settle, shared, submit, submit_in, table_for, take_batch, cancel, unlisten, write, write_act, write_at, write_in, write_with}
use Rattle.sal_script.specs.Tables.{Versions, has_domain, has_upgrade, last_in}
use Rattle.sal_script.specs.Messages.{input_of, note_called, output_of, rpc_called}
use Rattle.sal_script.specs.Services.{Invocation, OrRefusal, answer, collect, context_of, if_known, in_slot, invoke, mount, mount_at, offer, path_of, provide, rows_of, subscribe, withdraw}
use Rattle.sal_script.specs.Orders.{Exchange, Kind, answers, asks_mount, collects, exchange_at, exchange_by, exchanges_in, exchanges_of, invokes, kind_of_call, kind_of_step, mounts, offers, provides, subscribes, withdraws}

-- ---- one step

-- the client answered by itself and has no more replies by that, or the call is of the step's kind
abbrev pub Met : Move → Client → Meeting → Type 0
Met step client (local r next) = (next.replies ≡ client.replies) × (exchange_at step r ≡ [])
Met step client (shared call) = kind_of_step step ≡ Some (kind_of_call call)

module _ (table : SchemaTable) (world : List Domain) (log : List Entry) (step : Move) (client : Client) where
  unless_met : (fault : Option TxFault) (slot : ℕ) (store : Store) (path : List Step) (act : Act) (tx : Open) → Met step client (accept_unless fault slot (op_of store path act) tx client)
  unless_met None slot store path act tx = (refl, refl)
  unless_met (Some fault) slot store path act tx = (refl, refl)

  act_met : (act : Result Act DataFault) (slot : ℕ) (store : Store) (path : List Step) (tx : Open) → Met step client (write_act table world log slot store path act tx client)
  act_met (Err fault) slot store path tx = (refl, refl)
  act_met (Ok act) slot store path tx = unless_met (refusal table (seen_by world log tx store) (op_of store path act)) slot store path act tx

  at_met : (path : Result (List Step) PathTextFault) (slot : ℕ) (store : Store) (data_act : DataAct) (tx : Open) → Met step client (write_at table world log slot store path data_act tx client)
  at_met (Err fault) slot store data_act tx = (refl, refl)
  at_met (Ok path) slot store data_act tx = act_met (act_of table path data_act) slot store path tx

  in_met : (mode : Mode) (slot : ℕ) (store : Store) (text : List ℕ) (data_act : DataAct) (tx : Open) → Met step client (write_in table world log mode slot store text data_act tx client)
  in_met Ro slot store text data_act tx = (refl, refl)
  in_met Wo slot store text data_act tx = at_met (read_path table text) slot store data_act tx
  in_met Rw slot store text data_act tx = at_met (read_path table text) slot store data_act tx
  in_met Checked slot store text data_act tx = at_met (read_path table text) slot store data_act tx

  write_met : (slot : ℕ) (store : Store) (text : List ℕ) (data_act : DataAct) (tx : Option Open) → Met step client (write table world log slot store text data_act client tx)
  write_met slot store text data_act None = (refl, refl)
  write_met slot store text data_act (Some tx) = in_met tx.mode slot store text data_act tx

  shown_met : (mode : Mode) (domain : ℕ) (r : StepReply) → exchange_at step r ≡ [] → exchange_at step (look_reply mode domain r) ≡ []
  shown_met Ro domain r silent = silent
  shown_met Wo domain r silent = refl
  shown_met Rw domain r silent = silent
  shown_met Checked domain r silent = silent

  look_at_met : (f : List Step → StepReply) (slot : ℕ) (store : Store) (path : Result (List Step) PathTextFault) (tx : Open) → ((p : List Step) → exchange_at step (f p) ≡ []) → Met step client (look_at f slot store path tx client)
  look_at_met f slot store (Err fault) tx silent = (refl, refl)
  look_at_met f slot store (Ok path) tx silent = (refl, shown_met tx.mode tx.domain (f path) (silent path))

  look_met : (f : Open → List Step → List Row → StepReply) (slot : ℕ) (store : Store) (text : List ℕ) (tx : Option Open) → ((o : Open) (p : List Step) (rows : List Row) → exchange_at step (f o p rows) ≡ []) → Met step client (look table world log f slot store text client tx)
  look_met f slot store text None silent = (refl, refl)
  look_met f slot store text (Some tx) silent = look_at_met (λ path. f tx path (seen_by world log tx store)) slot store (read_path table text) tx (λ path. silent tx path (seen_by world log tx store))

submit_in_met : (slot : ℕ) (client : Client) (tx : Open) (mode : Mode) → Met (Submit slot) client (submit_in tx mode client)
submit_in_met slot client tx Ro = (refl, refl)
submit_in_met slot client tx Wo = refl
submit_in_met slot client tx Rw = refl
submit_in_met slot client tx Checked = refl

submit_met : (slot : ℕ) (client : Client) (tx : Option Open) → Met (Submit slot) client (submit client tx)
submit_met slot client None = (refl, refl)
submit_met slot client (Some tx) = submit_in_met slot client tx tx.mode

cancel_met : (slot : ℕ) (client : Client) (tx : Option Open) → Met (Cancel slot) client (cancel client tx)
cancel_met slot client None = (refl, refl)
cancel_met slot client (Some tx) = refl

settle_met : (slot : ℕ) (client : Client) (receipt : Option ℕ) → Met (Settle slot) client (settle client receipt)
settle_met slot client None = (refl, refl)
settle_met slot client (Some receipt) = refl

chain_begin_met : (slot : ℕ) (mode : Mode) (client : Client) (chain : ℕ) (opened : Option Opened) → Met (ChainBegin chain slot mode) client (chain_begin mode client opened)
chain_begin_met slot mode client chain None = (refl, refl)
chain_begin_met slot mode client chain (Some opened) = refl

close_chain_met : (client : Client) (chain : ℕ) (opened : Option Opened) → Met (CloseChain chain) client (close_chain client opened)
close_chain_met client chain None = (refl, refl)
close_chain_met client chain (Some opened) = refl

listen_at_met : (slot domain : ℕ) (store : Store) (text : List ℕ) (client : Client) (path : Result (List Step) PathTextFault) → Met (Listen slot domain store text) client (listen_at domain store path client)
listen_at_met slot domain store text client (Err fault) = (refl, refl)
listen_at_met slot domain store text client (Ok path) = refl

listen_met : (tables : List Versions) (slot domain : ℕ) (store : Store) (text : List ℕ) (client : Client) (path : Result (List Step) PathTextFault) → Met (Listen slot domain store text) client (listen tables domain store path client)
listen_met tables slot domain store text client path =
    elim (has_domain tables domain) as (λ has. Met (Listen slot domain store text) client (if has then listen_at domain store path client else refused NoDevice client)) [
      | true ↦ listen_at_met slot domain store text client path
      | false ↦ (refl, refl)
    ]

upgrade_met : (tables : List Versions) (version : ℕ) (client : Client) → Met (Upgrade version) client (upgrade tables version client)
upgrade_met tables version client =
    elim (has_upgrade tables version) as (λ has. Met (Upgrade version) client (if has then shared (called.Upgrade version) else refused NoUpgrade client)) [ true ↦ refl | false ↦ (refl, refl) ]

take_met : (slot : ℕ) (client : Client) (listener : Option Listener) → Met (Take slot) client (take_batch client listener)
take_met slot client None = (refl, refl)
take_met slot client (Some listener) = refl

unlisten_met : (slot : ℕ) (client : Client) (listener : Option Listener) → Met (Unlisten slot) client (unlisten client listener)
unlisten_met slot client None = (refl, refl)
unlisten_met slot client (Some listener) = refl

module _ (world : List Domain) (log : List Entry) where
  mirror_met : (slot : ℕ) (client : Client) (listener : Option Listener) → Met (Mirror slot) client (mirror world log client listener)
  mirror_met slot client None = (refl, refl)
  mirror_met slot client (Some listener) = (refl, refl)

-- ---- a step on a service

-- each call that there is, is of this kind
abbrev AllOf : Kind → OrRefusal Call → Type 0
AllOf kind (Ok call) = kind_of_call call ≡ kind
AllOf kind (Err refusal) = ⊤

all_then : {A : Type 0} (kind : Kind) (r : OrRefusal A) (f : A → OrRefusal Call) → ((x : A) → AllOf kind (f x)) → AllOf kind (r >>= f)
all_then kind (Ok x) f more = more x
all_then kind (Err refusal) f more = tt

asked_met : (step : Move) (kind : Kind) (client : Client) (r : OrRefusal Call) → kind_of_step step ≡ Some kind → AllOf kind r → Met step client (ask r client)
asked_met step kind client (Ok call) is all = is ∙ ap Some (sym all)
asked_met step kind client (Err refusal) is all = (refl, refl)

module _ (table : SchemaTable) where
  provide_kind : (name : List ℕ) (context : Option (List ℕ)) → AllOf provides (provide table name context)
  provide_kind name context = all_then provides (if_known (rpc_called table name)) _ (λ rpc. all_then provides (context_of table context) _ (λ at. refl))

  withdraw_kind : (name : List ℕ) (context : Option (List ℕ)) → AllOf withdraws (withdraw table name context)
  withdraw_kind name context = all_then withdraws (if_known (rpc_called table name)) _ (λ rpc. all_then withdraws (context_of table context) _ (λ at. refl))

  invoke_kind : (name : List ℕ) (context : Option (List ℕ)) (value : Data) → AllOf invokes (invoke table name context value)
  invoke_kind name context value =
      all_then invokes (if_known (rpc_called table name)) _
      (λ rpc. all_then invokes (context_of table context) _
      (λ at. all_then invokes (rows_of table (input_of table rpc) value) _ (λ input. refl)))

  answer_kind : (request : Option Invocation) (value : Data) → AllOf answers (answer table request value)
  answer_kind request value = all_then answers (in_slot request) _ (λ r. all_then answers (rows_of table (output_of table r.rpc) value) _ (λ output. refl))

  subscribe_kind : (name : List ℕ) → AllOf subscribes (subscribe table name)
  subscribe_kind name = all_then subscribes (if_known (note_called table name)) _ (λ note. refl)

  offer_kind : (name : List ℕ) (value : Data) → AllOf offers (offer table name value)
  offer_kind name value = all_then offers (if_known (note_called table name)) _ (λ note. all_then offers (rows_of table note value) _ (λ rows. refl))

  mount_kind : (device : ℕ) (text : List ℕ) → AllOf (mounts device) (mount table device text)
  mount_kind device text = all_then (mounts device) (path_of table text) _ (λ path. refl)

  mount_at_kind : (text : List ℕ) → AllOf asks_mount (mount_at table text)
  mount_at_kind text = all_then asks_mount (path_of table text) _ (λ path. refl)

collect_kind : (id : Option ℕ) → AllOf collects (collect id)
collect_kind id = all_then collects (in_slot id) _ (λ n. refl)

-- ---- any step

module _ (tables : List Versions) (world : List Domain) (log : List Entry) where
  -- by the schema of domain 0
  asked_own : (client : Client) (step : Move) (kind : Kind) (f : SchemaTable → OrRefusal Call) → kind_of_step step ≡ Some kind → ((table : SchemaTable) → AllOf kind (f table)) → Met step client (ask (f (last_in tables 0)) client)
  asked_own client step kind f is all = asked_met step kind client (f (last_in tables 0)) is (all (last_in tables 0))

  -- by the schema of the transaction's domain
  write_in_met : (client : Client) (step : Move) (slot : ℕ) (store : Store) (path : List ℕ) (data_act : DataAct) → Met step client (write_with tables world log slot store path data_act client (client.transactions slot))
  write_in_met client step slot store path data_act = write_met (table_for tables (client.transactions slot)) world log step client slot store path data_act (client.transactions slot)

  met : (client : Client) (step : Move) → Met step client (meet tables world log client step)
  met client (Begin slot domain mode) = refl
  met client (Put slot store path value) = write_in_met client (Put slot store path value) slot store path (putting value)
  met client (Merge slot store path value) = write_in_met client (Merge slot store path value) slot store path (merging value)
  met client (Delete slot store path) = write_in_met client (Delete slot store path) slot store path deleting
  met client (Read slot store path) = look_met (table_for tables (client.transactions slot)) world log (Read slot store path) client rows_read slot store path (client.transactions slot) (λ o p rows. refl)
  met client (Exists slot store path) = look_met (table_for tables (client.transactions slot)) world log (Exists slot store path) client found slot store path (client.transactions slot) (λ o p rows. refl)
  met client (Submit slot) = submit_met slot client (client.transactions slot)
  met client (Cancel slot) = cancel_met slot client (client.transactions slot)
  met client (Settle slot) = settle_met slot client (client.receipts slot)
  met client (OpenChain chain domain) = refl
  met client (ChainBegin chain slot mode) = chain_begin_met slot mode client chain (client.chains chain)
  met client (CloseChain chain) = close_chain_met client chain (client.chains chain)
  met client Pump = refl
  met client (Listen slot domain store path) = listen_met tables slot domain store path client (read_path (last_in tables domain) path)
  met client (Take slot) = take_met slot client (client.listeners slot)
  met client (Unlisten slot) = unlisten_met slot client (client.listeners slot)
  met client (Mirror slot) = mirror_met world log slot client (client.listeners slot)
  met client (Provide name context) = asked_own client (Provide name context) provides (λ table. provide table name context) refl (λ table. provide_kind table name context)
  met client (Withdraw name context) = asked_own client (Withdraw name context) withdraws (λ table. withdraw table name context) refl (λ table. withdraw_kind table name context)
  met client (Invoke slot name context value) = asked_own client (Invoke slot name context value) invokes (λ table. invoke table name context value) refl (λ table. invoke_kind table name context value)
  met client (NextCall slot) = refl
  met client (Answer slot value) = asked_own client (Answer slot value) answers (λ table. answer table (client.handed slot) value) refl (λ table. answer_kind table (client.handed slot) value)
  met client (Collect slot) = asked_met (Collect slot) collects client (collect (client.invoked slot)) refl (collect_kind (client.invoked slot))
  met client (Subscribe name) = asked_own client (Subscribe name) subscribes (λ table. subscribe table name) refl (λ table. subscribe_kind table name)
  met client (Offer name value) = asked_own client (Offer name value) offers (λ table. offer table name value) refl (λ table. offer_kind table name value)
  met client TakeNotes = refl
  met client (Mount device path) = asked_own client (Mount device path) (mounts device) (λ table. mount table device path) refl (λ table. mount_kind table device path)
  met client (Unmount domain) = refl
  met client (MountAt path) = asked_own client (MountAt path) asks_mount (λ table. mount_at table path) refl (λ table. mount_at_kind table path)
  met client (Mark mark) = refl
  met client (After mark) = refl
  met client (Upgrade version) = upgrade_met tables version client

-- ---- the way to the next call

-- one step more, with its reply
exchanges-push : (done : List Move) (rs : List StepReply) (step : Move) (r : StepReply) → length rs ≡ length done → exchanges_of (done ++ step ∷ []) (rs ++ r ∷ []) ≡ exchanges_of done rs ++ exchange_at step r
exchanges-push [] [] step r h = append-nil (exchange_at step r)
exchanges-push [] (x ∷ rs) step r h = absurd (omega (arith, h))
exchanges-push (s ∷ done) [] step r h = absurd (omega (arith, h))
exchanges-push (s ∷ done) (x ∷ rs) step r h =
    ap (λ (es : List Exchange). exchange_at s x ++ es) (exchanges-push done rs step r (omega (arith, h))) ∙ sym (append_assoc (exchange_at s x) (exchanges_of done rs) (exchange_at step r))

-- the client reached its end, or is before a call of its next step; with these exchanges so far
abbrev pub Reaches : List Move → List Exchange → Arrival → Type 0
Reaches steps es (ended client) = (length client.replies ≡ length steps) × (exchanges_of steps client.replies ≡ es)
Reaches steps es (calls call step run) =
    (done : List Move) × (steps ≡ done ++ step ∷ run.steps) × (length run.client.replies ≡ length done) × (exchanges_of done run.client.replies ≡ es) × (kind_of_step step ≡ Some (kind_of_call call))

module _ (tables : List Versions) (world : List Domain) (log : List Entry) where
  reaches_by : (m : Meeting) (step : Move) (rest done : List Move) (client : Client) (es : List Exchange) → Met step client m → length client.replies ≡ length done → exchanges_of done client.replies ≡ es
      → ((next : Client) → length next.replies ≡ length (done ++ step ∷ []) → exchanges_of (done ++ step ∷ []) next.replies ≡ es → Reaches (done ++ step ∷ rest) es (arrive tables world log next rest))
      → Reaches (done ++ step ∷ rest) es (arrive_by (λ next. arrive tables world log next rest) (λ call. calls call step (record { client = client; steps = rest })) m)
  reaches_by (local r next) step rest done client es (same, quiet) long so_far more =
      let one : length next.replies ≡ length client.replies = ap length same in
      more (replied r next) (omega (arith, length-append next.replies (r ∷ []), length-append done (step ∷ []), one, long))
      (
      ap (λ (rs : List StepReply). exchanges_of (done ++ step ∷ []) (rs ++ r ∷ [])) same ∙ exchanges-push done client.replies step r long
      ∙ ap (λ (xs : List Exchange). exchanges_of done client.replies ++ xs) quiet ∙ append-nil (exchanges_of done client.replies) ∙ so_far
      )
  reaches_by (shared call) step rest done client es kind long so_far more = (done, refl, long, so_far, kind)

  pub reaches : (rest done : List Move) (client : Client) (es : List Exchange) → length client.replies ≡ length done → exchanges_of done client.replies ≡ es → Reaches (done ++ rest) es (arrive tables world log client rest)
  reaches [] done client es long so_far = subst (λ (steps : List Move). Reaches steps es (ended client)) (sym (append-nil done)) (long, so_far)
  reaches (step ∷ rest) done client es long so_far =
      reaches_by (meet tables world log client step) step rest done client es (met tables world log client step) long so_far
      (λ next l e. subst (λ (steps : List Move). Reaches steps es (arrive tables world log next rest)) (append_assoc done (step ∷ []) rest) (reaches rest (done ++ step ∷ []) next es l e))

-- ---- the call

keep_replies : (spot : Spot) (step : Move) (r : Reply) (client : Client) → (keep spot step r client).replies ≡ client.replies
keep_replies spot (Begin slot domain mode) (Begun commit on) client = refl
keep_replies spot (ChainBegin chain slot mode) (Begun commit on) client = refl
keep_replies spot (OpenChain chain domain) (Chain id) client = refl
keep_replies spot (Listen slot domain store path) (Listening id at p opened) client = refl
keep_replies spot (Take slot) (Batch domain batch) client = refl
keep_replies spot (Submit slot) (Receipt number) client = refl
keep_replies spot (Cancel slot) Done client = refl
keep_replies spot (Invoke slot name context value) (CallMade id) client = refl
keep_replies spot (NextCall slot) (Request request) client = refl
keep_replies spot step r client = refl

module _ (world : List Domain) (log : List Entry) (e : Entry) where
  abbrev now : Answered
  now = answered_as world (history world log) e (reply world log e)

  exchanges-entry : (c : ℕ) → exchanges_in world (log ++ e ∷ []) c ≡ exchanges_in world log c ++ exchange_by c now
  exchanges-entry c =
      ap (flat_map (exchange_by c)) (fold-append (answer_more world) [] log (e ∷ [])) ∙ flat_map-append (exchange_by c) (history world log) (now ∷ [])
      ∙ ap (λ (es : List Exchange). exchanges_in world log c ++ es) (append-nil (exchange_by c now))

  -- one more entry of the client
  exchanges-own : (c : ℕ) → e.client ≡ c → exchanges_in world (log ++ e ∷ []) c ≡ exchanges_in world log c ++ (record { kind = Some (kind_of_call e.call); reply = reply world log e }) ∷ []
  exchanges-own c own =
      exchanges-entry c
      ∙ ap (λ (is : Bool). exchanges_in world log c ++ (let es : List Exchange = if is then record { kind = Some (kind_of_call e.call); reply = reply world log e } ∷ [] else [] in es)) (eq-eqb e.client c own)

  -- and of another one
  pub exchanges-other : (c : ℕ) → (e.client ≡ c → ⊥) → exchanges_in world (log ++ e ∷ []) c ≡ exchanges_in world log c
  exchanges-other c other =
      exchanges-entry c
      ∙ ap (λ (is : Bool). exchanges_in world log c ++ (let es : List Exchange = if is then record { kind = Some (kind_of_call e.call); reply = reply world log e } ∷ [] else [] in es)) (ne_eqb e.client c other)
      ∙ append-nil (exchanges_in world log c)

-- the client has answered the steps before those that are to come, and its calls are in the log
pub record IsOnWay (world : List Domain) (log : List Entry) (c : ℕ) (steps : List Move) (run : Run) : Type 0 where
  pub done : List Move
  pub parts : steps ≡ done ++ run.steps
  pub long : length run.client.replies ≡ length done
  pub so_far : exchanges_of done run.client.replies ≡ exchanges_in world log c

-- the client made one call
pub record Makes (world : List Domain) (log : List Entry) (c : ℕ) (steps : List Move) (made : Made) : Type 0 where
  pub entry : Entry
  pub grown : made.log ≡ log ++ entry ∷ []
  pub by : entry.client ≡ c
  pub number : entry.number ≡ entries_of log c
  pub run : IsOnWay world made.log c steps made.run

abbrev pub MakesIf : List Domain → List Entry → ℕ → List Move → Option Made → Type 0
MakesIf world log c steps None = ⊤
MakesIf world log c steps (Some made) = Makes world log c steps made

pub makes : (tables : List Versions) (world : List Domain) (log : List Entry) (c : ℕ) (steps : List Move) (a : Arrival) → Reaches steps (exchanges_in world log c) a → MakesIf world log c steps (make tables world log c a)
makes tables world log c steps (ended client) reached = tt
makes tables world log c steps (calls call step run) (done, parts, long, so_far, kind) =
    let e : Entry = record { client = c; number = entries_of log c; call = call } in
    let r : Reply = reply world log e in
    let kept : List StepReply = (keep (spot_after world log) step r run.client).replies in
    let same : length kept ≡ length run.client.replies = ap length (keep_replies (spot_after world log) step r run.client) in
    record {
      entry = e;
      grown = refl;
      by = refl;
      number = refl;
      run = record {
        done = done ++ step ∷ [];
        parts = parts ∙ sym (append_assoc done (step ∷ []) run.steps);
        long = omega (arith, length-append kept (Called r ∷ []), length-append done (step ∷ []), same, long);
        so_far =
            ap (λ (rs : List StepReply). exchanges_of (done ++ step ∷ []) (rs ++ Called r ∷ [])) (keep_replies (spot_after world log) step r run.client) ∙ exchanges-push done run.client.replies step (Called r) long
            ∙ (λ k. so_far k ++ (let x : Exchange = record { kind = kind k; reply = r } in x) ∷ []) ∙ sym (exchanges-own world log e c refl);
      };
    }
