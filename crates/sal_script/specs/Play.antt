-- The play of a script in an order: for each number of the order that client proceeds to its next shared call, which is
-- then made, with the reply by the log; at the end each client does its remaining local steps.
use Rattle.std.specs.Prelude.{ℕ, ◌+◌, Bool, List, [], ◌∷◌, ◌++◌, length, map, Option, None, Some, Result, Ok, Err, IsOk, if◌then◌else◌, nat_eq, slice_get}
use Rattle.std.specs.List.{slice_set}
use Rattle.std.specs.Option.{option_map, option_map_or}
use Rattle.sal_types.specs.declared.value.Store.{Store}
use Rattle.sal_types.specs.declared.value.Step.{Step}
use Rattle.sal_types.specs.declared.row.Row.{Row}
use Rattle.sal_types.specs.Reading.{◌>>=◌}
use Rattle.sal_types.specs.Tree.{has, under}
use Rattle.sal_rows.specs.declared.op.Op.{Op}
use Rattle.sal_rows.specs.declared.op.Act.{Act}
use Rattle.sal_rows.specs.declared.op.Act.TheVariants.{Put as PutAct, Merge as MergeAct, Delete as DeleteAct}
use Rattle.sal_rows.specs.declared.outcome.Mode.{Mode}
use Rattle.sal_rows.specs.declared.outcome.Mode.TheVariants.{Ro, Wo}
use Rattle.sal_rows.specs.Reads.{recorded}
use Rattle.sal_history.specs.declared.call.Call.{Call}
use Rattle.sal_history.specs.declared.call.Call.TheVariants as made
use Rattle.sal_history.specs.declared.call.Entry.{Entry}
use Rattle.sal_history.specs.declared.reply.Reply.{Reply}
use Rattle.sal_history.specs.declared.reply.Reply.TheVariants.{Begun, Chain, Accepted as Done, Receipt, Listener as Listening, Batch, CallMade, Request}
use Rattle.sal_history.specs.World.{Domain, no_table}
use Rattle.sal_history.specs.History.{history, reply, trees_at, view, entries_of}
use Rattle.sal_history.specs.Versions.{schema_version}
use Rattle.serde_json.specs.Data.{Data}
use Rattle.sal_schema.specs.declared.table.SchemaTable.{SchemaTable}
use Rattle.sal_pathtext.specs.declared.fault.PathTextFault.{PathTextFault}
use Rattle.sal_pathtext.specs.Read.{read_path}
use Rattle.sal_data.specs.declared.fault.DataFault.{DataFault}
use Rattle.sal_data.specs.Read.{read_data}
use Rattle.sal_rules.specs.declared.fault.TxFault.{TxFault}
use Rattle.sal_rules.specs.declared.fault.TxFault.TheVariants.{ParentMissing, WriteOnly}
use Rattle.sal_rules.specs.Refusals.{refusal}
use Rattle.sal_script.specs.declared.reply.StepReply.{StepReply}
use Rattle.sal_script.specs.declared.reply.StepReply.TheVariants.{Called, Accepted, Read as ReadReply, Exists as ExistsReply, Mirror as MirrorReply, Refused}
use Rattle.sal_script.specs.declared.reply.StepRefusal.{StepRefusal}
use Rattle.sal_script.specs.declared.reply.StepRefusal.TheVariants.{EmptySlot, ReadOnly, NoDevice, NoUpgrade, BadPath, BadData, Write}
use Rattle.sal_script.specs.Moves.{Move, Begin, Put, Merge, Delete, Read, Exists, Submit, Cancel, Settle, OpenChain, ChainBegin, CloseChain, Pump, Listen, Take, Unlisten, Mirror, Provide, Withdraw, Invoke, NextCall, Answer, Collect, Subscribe, Offer, TakeNotes, Mount, Unmount, MountAt, Mark, After, Upgrade}
use Rattle.sal_script.specs.Tables.{Versions, has_domain, has_upgrade, last_in, table_at, versions_of}
use Rattle.sal_script.specs.Services.{Invocation, OrRefusal, answer, collect, invoke, mount, mount_at, offer, provide, subscribe, withdraw}

-- ---- clients

-- a client's transaction: its index in the log, its domain, the version of the domain's schema there, its mode, and its operations so far
pub record Open : Type 0 where
  pub place : ℕ
  pub domain : ℕ
  pub version : ℕ
  pub mode : Mode
  pub ops : List Op

-- a chain that the client opened: its id, and its domain
pub record Opened : Type 0 where
  pub id : ℕ
  pub domain : ℕ

-- a listener of the client: its id, its domain, store and path, and the version of its last batch
pub record Listener : Type 0 where
  pub id : ℕ
  pub domain : ℕ
  pub store : Store
  pub path : List Step
  pub version : ℕ

-- the value of each slot
abbrev pub Slots : Type 0 → Type 0
Slots A = ℕ → Option A

abbrev pub set_slot : {A : Type 0} → ℕ → Option A → Slots A → Slots A
set_slot slot x slots = λ k. if nat_eq k slot then x else slots k

-- a client: its slots, for requests those of the ids that it made and of those that it took, and the replies to its steps
-- so far
pub record Client : Type 0 where
  pub transactions : Slots Open
  pub receipts : Slots ℕ
  pub chains : Slots Opened
  pub listeners : Slots Listener
  pub invoked : Slots ℕ
  pub handed : Slots Invocation
  pub replies : List StepReply

abbrev pub new_client : Client
new_client = record { transactions = λ k. None; receipts = λ k. None; chains = λ k. None; listeners = λ k. None; invoked = λ k. None; handed = λ k. None; replies = [] }

-- one more step has a reply
abbrev pub replied : StepReply → Client → Client
replied r client = record client { replies = client.replies ++ r ∷ [] }

-- the result of a step: a reply at once, or a shared call
pub data Meeting : Type 0 where
  local : StepReply → Client → Meeting
  shared : Call → Meeting

abbrev pub refused : StepRefusal → Client → Meeting
refused refusal client = local (Refused refusal) client

-- a shared call, or why the client makes none
abbrev pub ask : OrRefusal Call → Client → Meeting
ask (Err refusal) client = refused refusal client
ask (Ok call) client = shared call

-- the table by which paths and values are read in a transaction: that of the version that was present at its begin
abbrev pub table_for : List Versions → Option Open → SchemaTable
table_for tables tx = option_map_or (λ (o : Open). table_at tables o.version o.domain) tx no_table

-- the act of a write at its path, with a value that is not yet read
pub data DataAct : Type 0 where
  putting : Data → DataAct
  merging : Data → DataAct
  deleting : DataAct

-- the act, with the rows that the value denotes at the path
abbrev pub act_of : SchemaTable → List Step → DataAct → Result Act DataFault
act_of table path (putting value) = read_data table path value >>= (λ rows. Ok (PutAct rows))
act_of table path (merging value) = read_data table path value >>= (λ rows. Ok (MergeAct rows))
act_of table path deleting = Ok DeleteAct

abbrev pub op_of : Store → List Step → Act → Op
op_of store path act = record { store = store; path = path; act = act }

-- the transaction has these operations, in its slot
abbrev pub with_ops : ℕ → List Op → Open → Client → Client
with_ops slot ops tx client = record client { transactions = set_slot slot (Some (record tx { ops = ops })) client.transactions }

-- a write that the transaction accepts is one more of its operations
abbrev pub accept : ℕ → Op → Open → Client → Meeting
accept slot op tx client = local Accepted (with_ops slot (tx.ops ++ op ∷ []) tx client)

-- the operations after a write to the store with this refusal: the missing parent is read
abbrev pub after_refusal : TxFault → Mode → Store → List Op → List Op
after_refusal (ParentMissing path) mode store ops = recorded mode store path ops
after_refusal fault mode store ops = ops

abbrev pub accept_unless : Option TxFault → ℕ → Op → Open → Client → Meeting
accept_unless None slot op tx client = accept slot op tx client
accept_unless (Some fault) slot op tx client = refused (Write tx.domain fault) (with_ops slot (after_refusal fault tx.mode op.store tx.ops) tx client)

abbrev pub submit_in : Open → Mode → Client → Meeting
submit_in tx Ro client = refused ReadOnly client
submit_in tx mode client = shared (made.Submit tx.place tx.ops)

abbrev pub submit : Client → Option Open → Meeting
submit client None = refused EmptySlot client
submit client (Some tx) = submit_in tx tx.mode client

abbrev pub cancel : Client → Option Open → Meeting
cancel client None = refused EmptySlot client
cancel client (Some tx) = shared (made.Cancel tx.place)

abbrev pub settle : Client → Option ℕ → Meeting
settle client None = refused EmptySlot client
settle client (Some receipt) = shared (made.Settle receipt)

abbrev pub chain_begin : Mode → Client → Option Opened → Meeting
chain_begin mode client None = refused EmptySlot client
chain_begin mode client (Some chain) = shared (made.ChainBegin chain.id mode)

abbrev pub close_chain : Client → Option Opened → Meeting
close_chain client None = refused EmptySlot client
close_chain client (Some chain) = shared (made.CloseChain chain.id)

abbrev pub listen_at : ℕ → Store → Result (List Step) PathTextFault → Client → Meeting
listen_at domain store (Err fault) client = refused (BadPath fault) client
listen_at domain store (Ok path) client = shared (made.Listen domain store path)

-- a listen: the first refusal is returned, of the domain, then of the path
abbrev pub listen : List Versions → ℕ → Store → Result (List Step) PathTextFault → Client → Meeting
listen tables domain store path client = if has_domain tables domain then listen_at domain store path client else refused NoDevice client

-- an upgrade to a version that the script has
abbrev pub upgrade : List Versions → ℕ → Client → Meeting
upgrade tables version client = if has_upgrade tables version then shared (made.Upgrade version) else refused NoUpgrade client

abbrev pub take_batch : Client → Option Listener → Meeting
take_batch client None = refused EmptySlot client
take_batch client (Some listener) = shared (made.Take listener.id)

abbrev pub unlisten : Client → Option Listener → Meeting
unlisten client None = refused EmptySlot client
unlisten client (Some listener) = shared (made.Unlisten listener.id)

-- the reply of a transaction of this mode to a read: one that only writes refuses
abbrev pub look_reply : Mode → ℕ → StepReply → StepReply
look_reply Wo domain r = Refused (Write domain WriteOnly)
look_reply mode domain r = r

-- a read of a path; if the reads of the transaction are checked, it is recorded
abbrev pub look_in : ℕ → Store → List Step → Open → StepReply → Client → Meeting
look_in slot store path tx r client = local (look_reply tx.mode tx.domain r) (with_ops slot (recorded tx.mode store path tx.ops) tx client)

-- a read of the path that a text denotes; f gives the reply
abbrev pub look_at : (List Step → StepReply) → ℕ → Store → Result (List Step) PathTextFault → Open → Client → Meeting
look_at f slot store (Err fault) tx client = refused (BadPath fault) client
look_at f slot store (Ok path) tx client = look_in slot store path tx (f path) client

-- the reply to a read has the rows at and below the path
abbrev pub rows_read : Open → List Step → List Row → StepReply
rows_read tx path rows = ReadReply tx.domain path (under rows path)

abbrev pub found : Open → List Step → List Row → StepReply
found tx path rows = ExistsReply (has rows path)

module _ (world : List Domain) (log : List Entry) where
  -- the rows of a store that a transaction sees, with its own writes applied
  abbrev pub seen_by : Open → Store → List Row
  seen_by tx store = view world log tx.place tx.ops store

  -- the rows that were committed at and below the listener's path, at the version of its last batch
  abbrev pub mirrored : Listener → List Row
  mirrored listener = under (trees_at world (history world log) listener.domain listener.store listener.version) listener.path

  abbrev pub mirror : Client → Option Listener → Meeting
  mirror client None = refused EmptySlot client
  mirror client (Some listener) = local (MirrorReply listener.domain listener.path listener.version (mirrored listener)) client

module _ (table : SchemaTable) (world : List Domain) (log : List Entry) where
  -- ---- reads

  -- a read in the view of a transaction; f gives the reply from its rows
  abbrev pub look : (Open → List Step → List Row → StepReply) → ℕ → Store → List ℕ → Client → Option Open → Meeting
  look f slot store text client None = refused EmptySlot client
  look f slot store text client (Some tx) = look_at (λ path. f tx path (seen_by world log tx store)) slot store (read_path table text) tx client

  -- ---- writes

  -- the operation is refused over the rows that the transaction sees, or accepted
  abbrev pub write_op : ℕ → Op → Open → Client → Meeting
  write_op slot op tx client = accept_unless (refusal table (seen_by world log tx op.store) op) slot op tx client

  abbrev pub write_act : ℕ → Store → List Step → Result Act DataFault → Open → Client → Meeting
  write_act slot store path (Err fault) tx client = refused (BadData tx.domain fault) client
  write_act slot store path (Ok act) tx client = write_op slot (op_of store path act) tx client

  abbrev pub write_at : ℕ → Store → Result (List Step) PathTextFault → DataAct → Open → Client → Meeting
  write_at slot store (Err fault) data_act tx client = refused (BadPath fault) client
  write_at slot store (Ok path) data_act tx client = write_act slot store path (act_of table path data_act) tx client

  abbrev pub write_in : Mode → ℕ → Store → List ℕ → DataAct → Open → Client → Meeting
  write_in Ro slot store text data_act tx client = refused ReadOnly client
  write_in mode slot store text data_act tx client = write_at slot store (read_path table text) data_act tx client

  -- A write: the first refusal is returned, of the slot, the mode, the path, the value, then of the transaction: the root, a
  -- key leaf, state data in the configuration, a missing parent.
  abbrev pub write : ℕ → Store → List ℕ → DataAct → Client → Option Open → Meeting
  write slot store text data_act client None = refused EmptySlot client
  write slot store text data_act client (Some tx) = write_in tx.mode slot store text data_act tx client

module _ (tables : List Versions) (world : List Domain) (log : List Entry) where
  -- by the version of the transaction's domain at its begin
  abbrev pub write_with : ℕ → Store → List ℕ → DataAct → Client → Option Open → Meeting
  write_with slot store text data_act client tx = write (table_for tables tx) world log slot store text data_act client tx

  abbrev pub look_with : (Open → List Step → List Row → StepReply) → ℕ → Store → List ℕ → Client → Option Open → Meeting
  look_with f slot store text client tx = look (table_for tables tx) world log f slot store text client tx

  -- The result of a client's step after the log. The arguments of listeners, RPCs, notifications and mounts are read by the last version.
  abbrev pub meet : Client → Move → Meeting
  meet client (Begin slot domain mode) = shared (made.Begin domain mode)
  meet client (Put slot store path value) = write_with slot store path (putting value) client (client.transactions slot)
  meet client (Merge slot store path value) = write_with slot store path (merging value) client (client.transactions slot)
  meet client (Delete slot store path) = write_with slot store path deleting client (client.transactions slot)
  meet client (Read slot store path) = look_with rows_read slot store path client (client.transactions slot)
  meet client (Exists slot store path) = look_with found slot store path client (client.transactions slot)
  meet client (Submit slot) = submit client (client.transactions slot)
  meet client (Cancel slot) = cancel client (client.transactions slot)
  meet client (Settle slot) = settle client (client.receipts slot)
  meet client (OpenChain chain domain) = shared (made.OpenChain domain)
  meet client (ChainBegin chain slot mode) = chain_begin mode client (client.chains chain)
  meet client (CloseChain chain) = close_chain client (client.chains chain)
  meet client Pump = shared made.Pump
  meet client (Listen listener domain store path) = listen tables domain store (read_path (last_in tables domain) path) client
  meet client (Take listener) = take_batch client (client.listeners listener)
  meet client (Unlisten listener) = unlisten client (client.listeners listener)
  meet client (Mirror listener) = mirror world log client (client.listeners listener)
  meet client (Provide name context) = ask (provide (last_in tables 0) name context) client
  meet client (Withdraw name context) = ask (withdraw (last_in tables 0) name context) client
  meet client (Invoke slot name context value) = ask (invoke (last_in tables 0) name context value) client
  meet client (NextCall slot) = shared made.NextCall
  meet client (Answer slot value) = ask (answer (last_in tables 0) (client.handed slot) value) client
  meet client (Collect slot) = ask (collect (client.invoked slot)) client
  meet client (Subscribe name) = ask (subscribe (last_in tables 0) name) client
  meet client (Offer name value) = ask (offer (last_in tables 0) name value) client
  meet client TakeNotes = shared made.TakeNotes
  meet client (Mount device path) = ask (mount (last_in tables 0) device path) client
  meet client (Unmount domain) = shared (made.Unmount domain)
  meet client (MountAt path) = ask (mount_at (last_in tables 0) path) client
  meet client (Mark mark) = shared (made.Mark mark)
  meet client (After mark) = shared (made.After mark)
  meet client (Upgrade version) = upgrade tables version client

-- a place of the log: the number of entries before it, and the version of domain 0's schema there
pub record Spot : Type 0 where
  pub place : ℕ
  pub version : ℕ

-- that after a log
abbrev pub spot_after : List Domain → List Entry → Spot
spot_after world log = record { place = length log; version = schema_version (history world log) }

-- the version of a domain's schema if domain 0 has this one: every other domain has one version
abbrev pub version_for : ℕ → ℕ → ℕ
version_for domain version = if nat_eq domain 0 then version else 0

-- a transaction that began there is in the slot
abbrev pub keep_begun : ℕ → Spot → ℕ → Mode → Client → Client
keep_begun slot spot domain mode client =
    record client { transactions = set_slot slot (Some (record { place = spot.place; domain = domain; version = version_for domain spot.version; mode = mode; ops = [] })) client.transactions }

-- the domain of the chain in a slot; with an empty slot no transaction begins
abbrev pub domain_in : Option Opened → ℕ
domain_in chain = option_map_or (λ c. c.domain) chain 0

-- a new listener in the slot, at the version of its opening
abbrev pub keep_listening : ℕ → Listener → Client → Client
keep_listening slot listener client = record client { listeners = set_slot slot (Some listener) client.listeners }

abbrev pub at_version : ℕ → Listener → Listener
at_version version listener = record listener { version = version }

-- the listener in the slot is at this version
abbrev pub keep_taken : ℕ → ℕ → Client → Client
keep_taken slot version client = record client { listeners = set_slot slot (option_map (at_version version) (client.listeners slot)) client.listeners }

-- The slots after the reply to a shared call; the spot is that of the call's entry. A refusal does not change them,
-- and the slot of a chain, of a listener or of a request is never emptied.
abbrev pub keep : Spot → Move → Reply → Client → Client
keep spot (Begin slot domain mode) (Begun commit on) client = keep_begun slot spot domain mode client
keep spot (ChainBegin chain slot mode) (Begun commit on) client = keep_begun slot spot (domain_in (client.chains chain)) mode client
keep spot (OpenChain chain domain) (Chain id) client = record client { chains = set_slot chain (Some (record { id = id; domain = domain })) client.chains }
keep spot (Listen slot domain store text) (Listening id at path opened) client = keep_listening slot (record { id = id; domain = domain; store = store; path = path; version = opened.version }) client
keep spot (Take slot) (Batch domain batch) client = keep_taken slot batch.to client
keep spot (Submit slot) (Receipt number) client =
    record client { transactions = set_slot slot None client.transactions; receipts = set_slot slot (Some number) client.receipts }
keep spot (Cancel slot) Done client = record client { transactions = set_slot slot None client.transactions }
keep spot (Invoke slot name context value) (CallMade id) client = record client { invoked = set_slot slot (Some id) client.invoked }
keep spot (NextCall slot) (Request request) client = record client { handed = set_slot slot (Some (record { id = request.id; rpc = request.rpc })) client.handed }
keep spot step r client = client

-- a client and its remaining steps
pub record Run : Type 0 where
  pub client : Client
  pub steps : List Move

-- the result of a client's local steps: its end, or a shared call with the steps after it
pub data Arrival : Type 0 where
  ended : Client → Arrival
  calls : Call → Move → Run → Arrival

-- the log and the client after a shared call
pub record Made : Type 0 where
  pub log : List Entry
  pub run : Run

-- the state of a script: the log, and each client
pub record PlayState : Type 0 where
  pub log : List Entry
  pub runs : List Run

-- after a local step the next ones follow; a shared call waits for its turn
abbrev pub arrive_by : (Client → Arrival) → (Call → Arrival) → Meeting → Arrival
arrive_by next wait (local r client) = next (replied r client)
arrive_by next wait (shared call) = wait call

-- the log and that client's run are the new ones
abbrev pub state_with : PlayState → ℕ → Option Made → Option PlayState
state_with state c None = None
state_with state c (Some made) = Some (record { log = made.log; runs = slice_set state.runs c made.run })

-- the replies of each client at its end; none if a shared call remains
abbrev pub replies_at : Arrival → Option (List StepReply)
replies_at (ended client) = Some client.replies
replies_at (calls call step run) = None

abbrev pub cons_replies : Option (List StepReply) → Option (List (List StepReply)) → Option (List (List StepReply))
cons_replies None rest = None
cons_replies (Some rs) None = None
cons_replies (Some rs) (Some rest) = Some (rs ∷ rest)

module _ (tables : List Versions) (world : List Domain) where
  -- the client proceeds to its next shared call
  abbrev pub arrive : List Entry → Client → List Move → Arrival
  arrive log client [] = ended client
  arrive log client (step ∷ steps) = arrive_by (λ next. arrive log next steps) (λ call. calls call step (record { client = client; steps = steps })) (meet tables world log client step)

  -- the call is made, with its reply; `none` if the client has reached its end
  abbrev pub make : List Entry → ℕ → Arrival → Option Made
  make log c (ended client) = None
  make log c (calls call step run) =
      let e : Entry = record { client = c; number = entries_of log c; call = call } in
      let r = reply world log e in
      Some (record { log = log ++ e ∷ []; run = record run { client = replied (Called r) (keep (spot_after world log) step r run.client) } })

  -- client c proceeds to its next shared call and makes it
  abbrev pub go : List Entry → ℕ → Run → Option Made
  go log c run = make log c (arrive log run.client run.steps)

  -- one number of the order: none if no client has it, or if that client reaches its end first
  abbrev pub advance_of : PlayState → ℕ → Option Run → Option PlayState
  advance_of state c None = None
  advance_of state c (Some run) = state_with state c (go state.log c run)

  abbrev pub advance : PlayState → ℕ → Option PlayState
  advance state c = advance_of state c (slice_get state.runs c)

  abbrev pub replies_of : List Entry → List Run → Option (List (List StepReply))
  replies_of log [] = Some []
  replies_of log (run ∷ runs) = cons_replies (replies_at (arrive log run.client run.steps)) (replies_of log runs)

-- the result of a script: the log, and the replies of each client to each of its steps
pub record Played : Type 0 where
  pub log : List Entry
  pub replies : List (List StepReply)

-- the order fails if no call was made
abbrev pub play_by : ℕ → (PlayState → Result Played ℕ) → Option PlayState → Result Played ℕ
play_by index next None = Err index
play_by index next (Some state) = next state

module _ (tables : List Versions) (world : List Domain) where
  abbrev pub end_by : ℕ → List Entry → Option (List (List StepReply)) → Result Played ℕ
  end_by index log None = Err index
  end_by index log (Some replies) = Ok (record { log = log; replies = replies })

  -- the rest of an order, from this index on; the fault is the index at which it fails
  abbrev pub play_from : ℕ → PlayState → List ℕ → Result Played ℕ
  play_from index state [] = end_by index state.log (replies_of tables world state.log state.runs)
  play_from index state (c ∷ order) = play_by index (λ next. play_from (index + 1) next order) (advance tables world state c)

-- the clients of a script before their first steps
abbrev pub start : List (List Move) → PlayState
start clients = record { log = []; runs = map (λ steps. record { client = new_client; steps = steps }) clients }

-- the play of a script in an order over its domains, or the index at which the order fails
abbrev pub play : List Domain → List (List Move) → List ℕ → Result Played ℕ
play world clients order = play_from (versions_of world) world 0 (start clients) order

-- the order is one of the clients' shared calls: each once, and in its client's own order
abbrev pub IsLegal : List Domain → List (List Move) → List ℕ → Type 0
IsLegal world clients order = IsOk (play world clients order)
