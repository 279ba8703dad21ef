-- A client meets a step only by its slots: with other replies it meets it in the same way.
use Rattle.std.proofs.Common.{◌≡◌, ℕ, Bool, true, false, List, [], ◌∷◌, Option, None, Some, Result, Ok, Err, if◌then◌else◌, refl, ap, sym, ◌∙◌}
use Rattle.serde_json.specs.Data.{Data}
use Rattle.sal_types.specs.declared.value.Store.{Store}
use Rattle.sal_types.specs.declared.value.Step.{Step}
use Rattle.sal_types.specs.declared.row.Row.{Row}
use Rattle.sal_rows.specs.declared.op.Act.{Act}
use Rattle.sal_rows.specs.declared.op.Op.{Op}
use Rattle.sal_rows.specs.declared.outcome.Mode.{Mode}
use Rattle.sal_rows.specs.declared.outcome.Mode.TheVariants.{Ro, Wo, Rw, Checked}
use Rattle.sal_history.specs.declared.call.Call.{Call}
use Rattle.sal_history.specs.declared.call.Call.TheVariants as called
use Rattle.sal_history.specs.declared.call.Entry.{Entry}
use Rattle.sal_history.specs.declared.reply.Reply.{Reply}
use Rattle.sal_history.specs.declared.reply.Reply.TheVariants.{Begun, Chain, Accepted as Done, Receipt, Listener as Listening, Batch, CallMade, Request}
use Rattle.sal_history.specs.World.{Domain}
use Rattle.sal_schema.specs.declared.table.SchemaTable.{SchemaTable}
use Rattle.sal_pathtext.specs.declared.fault.PathTextFault.{PathTextFault}
use Rattle.sal_pathtext.specs.Read.{read_path}
use Rattle.sal_data.specs.declared.fault.DataFault.{DataFault}
use Rattle.sal_rules.specs.declared.fault.TxFault.{TxFault}
use Rattle.sal_rules.specs.Refusals.{refusal}
use Rattle.sal_script.specs.declared.reply.StepReply.{StepReply}
use Rattle.sal_script.specs.declared.reply.StepRefusal.TheVariants.{NoDevice, NoUpgrade}
use Rattle.sal_script.specs.Moves.{Move, Begin, Put, Merge, Delete, Read, Exists, Submit, Cancel, Settle, OpenChain, ChainBegin, CloseChain, Pump, Listen, Take, Unlisten, Mirror, Provide, Withdraw, Invoke, NextCall, Answer, Collect, Subscribe, Offer, TakeNotes, Mount, Unmount, MountAt, Mark, After, Upgrade}
use Rattle.sal_script.specs.Play.{Client, DataAct, Listener, Meeting, Open, Opened, Spot, accept_unless, act_of, ask, cancel, chain_begin, close_chain, deleting, found, keep, listen, listen_at, local, look, look_at, look_with, meet, merging, mirror, op_of, putting, refused, rows_read, seen_by, settle, shared, submit, submit_in, table_for, take_batch, unlisten, upgrade, write, write_act, write_at, write_in, write_with}
use Rattle.sal_script.specs.Tables.{Versions, has_domain, has_upgrade, last_in}
use Rattle.sal_script.specs.Services.{OrRefusal, answer, collect, invoke, mount, mount_at, offer, provide, subscribe, withdraw}
use Rattle.sal_embed.specs.Broker.{answering}

-- the same answer, for the client with these replies
abbrev pub lift : List StepReply → Meeting → Meeting
lift rs (local r next) = local r (answering rs next)
lift rs (shared call) = shared call

module _ (rs : List StepReply) where
  -- the meeting of that client is the same
  abbrev Same : (Client → Meeting) → Client → Type 0
  Same f client = f (answering rs client) ≡ lift rs (f client)

  module _ (table : SchemaTable) (world : List Domain) (log : List Entry) (client : Client) where
    unless_same : (fault : Option TxFault) (slot : ℕ) (op : Op) (tx : Open) → Same (accept_unless fault slot op tx) client
    unless_same None slot op tx = refl
    unless_same (Some fault) slot op tx = refl

    act_same : (act : Result Act DataFault) (slot : ℕ) (store : Store) (path : List Step) (tx : Open) → Same (write_act table world log slot store path act tx) client
    act_same (Err fault) slot store path tx = refl
    act_same (Ok act) slot store path tx = unless_same (refusal table (seen_by world log tx store) (op_of store path act)) slot (op_of store path act) tx

    at_same : (path : Result (List Step) PathTextFault) (slot : ℕ) (store : Store) (data_act : DataAct) (tx : Open) → Same (write_at table world log slot store path data_act tx) client
    at_same (Err fault) slot store data_act tx = refl
    at_same (Ok path) slot store data_act tx = act_same (act_of table path data_act) slot store path tx

    in_same : (mode : Mode) (slot : ℕ) (store : Store) (text : List ℕ) (data_act : DataAct) (tx : Open) → Same (write_in table world log mode slot store text data_act tx) client
    in_same Ro slot store text data_act tx = refl
    in_same Wo slot store text data_act tx = at_same (read_path table text) slot store data_act tx
    in_same Rw slot store text data_act tx = at_same (read_path table text) slot store data_act tx
    in_same Checked slot store text data_act tx = at_same (read_path table text) slot store data_act tx

    write_same : (slot : ℕ) (store : Store) (text : List ℕ) (data_act : DataAct) (tx : Option Open) → Same (λ c. write table world log slot store text data_act c tx) client
    write_same slot store text data_act None = refl
    write_same slot store text data_act (Some tx) = in_same tx.mode slot store text data_act tx

    look_at_same : (f : List Step → StepReply) (slot : ℕ) (store : Store) (path : Result (List Step) PathTextFault) (tx : Open) → Same (look_at f slot store path tx) client
    look_at_same f slot store (Err fault) tx = refl
    look_at_same f slot store (Ok path) tx = refl

    look_same : (f : Open → List Step → List Row → StepReply) (slot : ℕ) (store : Store) (text : List ℕ) (tx : Option Open) → Same (λ c. look table world log f slot store text c tx) client
    look_same f slot store text None = refl
    look_same f slot store text (Some tx) = look_at_same (λ path. f tx path (seen_by world log tx store)) slot store (read_path table text) tx

  module _ (client : Client) where
    submit_in_same : (tx : Open) (mode : Mode) → Same (submit_in tx mode) client
    submit_in_same tx Ro = refl
    submit_in_same tx Wo = refl
    submit_in_same tx Rw = refl
    submit_in_same tx Checked = refl

    submit_same : (tx : Option Open) → Same (λ c. submit c tx) client
    submit_same None = refl
    submit_same (Some tx) = submit_in_same tx tx.mode

    cancel_same : (tx : Option Open) → Same (λ c. cancel c tx) client
    cancel_same None = refl
    cancel_same (Some tx) = refl

    settle_same : (receipt : Option ℕ) → Same (λ c. settle c receipt) client
    settle_same None = refl
    settle_same (Some receipt) = refl

    chain_begin_same : (mode : Mode) (opened : Option Opened) → Same (λ c. chain_begin mode c opened) client
    chain_begin_same mode None = refl
    chain_begin_same mode (Some opened) = refl

    close_chain_same : (opened : Option Opened) → Same (λ c. close_chain c opened) client
    close_chain_same None = refl
    close_chain_same (Some opened) = refl

    listen_at_same : (domain : ℕ) (store : Store) (path : Result (List Step) PathTextFault) → Same (listen_at domain store path) client
    listen_at_same domain store (Err fault) = refl
    listen_at_same domain store (Ok path) = refl

    listen_same : (has : Bool) (domain : ℕ) (store : Store) (path : Result (List Step) PathTextFault)
        → (if has then listen_at domain store path (answering rs client) else refused NoDevice (answering rs client)) ≡ lift rs (if has then listen_at domain store path client else refused NoDevice client)
    listen_same true domain store path = listen_at_same domain store path
    listen_same false domain store path = refl

    upgrade_same : (has : Bool) (version : ℕ)
        → (if has then shared (called.Upgrade version) else refused NoUpgrade (answering rs client)) ≡ lift rs (if has then shared (called.Upgrade version) else refused NoUpgrade client)
    upgrade_same true version = refl
    upgrade_same false version = refl

    take_same : (listener : Option Listener) → Same (λ c. take_batch c listener) client
    take_same None = refl
    take_same (Some listener) = refl

    unlisten_same : (listener : Option Listener) → Same (λ c. unlisten c listener) client
    unlisten_same None = refl
    unlisten_same (Some listener) = refl

    asked_same : (call : OrRefusal Call) → Same (ask call) client
    asked_same (Ok call) = refl
    asked_same (Err refusal) = refl

  module _ (world : List Domain) (log : List Entry) (client : Client) where
    mirror_same : (listener : Option Listener) → Same (λ c. mirror world log c listener) client
    mirror_same None = refl
    mirror_same (Some listener) = refl

  module _ (tables : List Versions) (world : List Domain) (log : List Entry) (client : Client) where
    write_with_same : (slot : ℕ) (store : Store) (text : List ℕ) (data_act : DataAct) (tx : Option Open) → Same (λ c. write_with tables world log slot store text data_act c tx) client
    write_with_same slot store text data_act tx = write_same (table_for tables tx) world log client slot store text data_act tx

    look_with_same : (f : Open → List Step → List Row → StepReply) (slot : ℕ) (store : Store) (text : List ℕ) (tx : Option Open) → Same (λ c. look_with tables world log f slot store text c tx) client
    look_with_same f slot store text tx = look_same (table_for tables tx) world log client f slot store text tx

    pub meet_same : (step : Move) → meet tables world log (answering rs client) step ≡ lift rs (meet tables world log client step)
    meet_same (Begin slot domain mode) = refl
    meet_same (Put slot store path value) = write_with_same slot store path (putting value) (client.transactions slot)
    meet_same (Merge slot store path value) = write_with_same slot store path (merging value) (client.transactions slot)
    meet_same (Delete slot store path) = write_with_same slot store path deleting (client.transactions slot)
    meet_same (Read slot store path) = look_with_same rows_read slot store path (client.transactions slot)
    meet_same (Exists slot store path) = look_with_same found slot store path (client.transactions slot)
    meet_same (Submit slot) = submit_same client (client.transactions slot)
    meet_same (Cancel slot) = cancel_same client (client.transactions slot)
    meet_same (Settle slot) = settle_same client (client.receipts slot)
    meet_same (OpenChain chain domain) = refl
    meet_same (ChainBegin chain slot mode) = chain_begin_same client mode (client.chains chain)
    meet_same (CloseChain chain) = close_chain_same client (client.chains chain)
    meet_same Pump = refl
    meet_same (Listen slot domain store path) = listen_same client (has_domain tables domain) domain store (read_path (last_in tables domain) path)
    meet_same (Take slot) = take_same client (client.listeners slot)
    meet_same (Unlisten slot) = unlisten_same client (client.listeners slot)
    meet_same (Mirror slot) = mirror_same world log client (client.listeners slot)
    meet_same (Provide name context) = asked_same client (provide (last_in tables 0) name context)
    meet_same (Withdraw name context) = asked_same client (withdraw (last_in tables 0) name context)
    meet_same (Invoke slot name context value) = asked_same client (invoke (last_in tables 0) name context value)
    meet_same (NextCall slot) = refl
    meet_same (Answer slot value) = asked_same client (answer (last_in tables 0) (client.handed slot) value)
    meet_same (Collect slot) = asked_same client (collect (client.invoked slot))
    meet_same (Subscribe name) = asked_same client (subscribe (last_in tables 0) name)
    meet_same (Offer name value) = asked_same client (offer (last_in tables 0) name value)
    meet_same TakeNotes = refl
    meet_same (Mount device path) = asked_same client (mount (last_in tables 0) device path)
    meet_same (Unmount domain) = refl
    meet_same (MountAt path) = asked_same client (mount_at (last_in tables 0) path)
    meet_same (Mark mark) = refl
    meet_same (After mark) = refl
    meet_same (Upgrade version) = upgrade_same client (has_upgrade tables version) version

  -- the slots after an answer are the same too
  pub keep_same : (spot : Spot) (step : Move) (r : Reply) (client : Client) → keep spot step r (answering rs client) ≡ answering rs (keep spot step r client)
  keep_same spot (Begin slot domain mode) (Begun commit on) client = refl
  keep_same spot (ChainBegin chain slot mode) (Begun commit on) client = refl
  keep_same spot (OpenChain chain domain) (Chain id) client = refl
  keep_same spot (Listen slot domain store path) (Listening id at p opened) client = refl
  keep_same spot (Take slot) (Batch domain batch) client = refl
  keep_same spot (Submit slot) (Receipt number) client = refl
  keep_same spot (Cancel slot) Done client = refl
  keep_same spot (Invoke slot name context value) (CallMade id) client = refl
  keep_same spot (NextCall slot) (Request request) client = refl
  keep_same spot step r client = refl
