-- A client at some place of a log meets each step in the same way over each longer one.
use Rattle.std.proofs.Common.{◌≡◌, ℕ, ◌+◌, ◌<◌, ◌≤◌, Bool, true, false, List, [], ◌∷◌, ◌++◌, length, Option, None, Some, Result, Ok, Err, if◌then◌else◌, refl, ap, ◌∙◌, subst, arith, length-append}
use Rattle.std.specs.Prelude.{⊤, nat_eq, unwrap_or, option_and_then}
use Rattle.std.specs.List.{fold}
use Rattle.std.proofs.lemmas.List.Sums.{fold-append}
use Rattle.std.proofs.lemmas.Option.{same_Some}
use Rattle.sal_types.specs.declared.value.Store.{Store}
use Rattle.sal_types.specs.declared.value.Step.{Step}
use Rattle.sal_types.specs.declared.row.Row.{Row}
use Rattle.sal_types.specs.Tree.{under}
use Rattle.sal_rows.specs.declared.op.Op.{Op}
use Rattle.sal_rows.specs.declared.op.Act.{Act}
use Rattle.sal_rows.specs.declared.outcome.Mode.{Mode}
use Rattle.sal_rows.specs.declared.outcome.Mode.TheVariants.{Ro, Wo, Rw, Checked}
use Rattle.sal_rows.specs.Apply.{apply_ops}
use Rattle.sal_rows.specs.Reads.{recorded}
use Rattle.sal_history.specs.declared.call.Call.{Call}
use Rattle.sal_history.specs.declared.call.Call.TheVariants as called
use Rattle.sal_history.specs.declared.call.Entry.{Entry}
use Rattle.sal_history.specs.declared.reply.Reply.{Reply}
use Rattle.sal_history.specs.declared.reply.Reply.TheVariants.{Begun, Chain, Accepted as Done, Receipt, Listener as Listening, Batch, CallMade, Request}
use Rattle.sal_history.specs.Submissions.{Base}
use Rattle.sal_history.specs.World.{Domain}
use Rattle.sal_history.specs.History.{Answered, answer as answer_more, answered_as, began_at, commits, history, nowhere, reply_to}
use Rattle.sal_schema.specs.declared.table.SchemaTable.{SchemaTable}
use Rattle.sal_pathtext.specs.declared.fault.PathTextFault.{PathTextFault}
use Rattle.sal_pathtext.specs.Read.{read_path}
use Rattle.sal_data.specs.declared.fault.DataFault.{DataFault}
use Rattle.sal_rules.specs.declared.fault.TxFault.{TxFault}
use Rattle.sal_rules.specs.Refusals.{refusal}
use Rattle.sal_script.specs.declared.reply.StepReply.{StepReply}
use Rattle.sal_script.specs.declared.reply.StepReply.TheVariants.{Mirror as MirrorReply}
use Rattle.sal_script.specs.declared.reply.StepRefusal.TheVariants.{NoDevice, NoUpgrade}
use Rattle.sal_script.specs.Moves.{Move, Begin, Put, Merge, Delete, Read, Exists, Submit, Cancel, Settle, OpenChain, ChainBegin, CloseChain, Pump, Listen, Take, Unlisten, Mirror, Provide, Withdraw, Invoke, NextCall, Answer, Collect, Subscribe, Offer, TakeNotes, Mount, Unmount, MountAt, Mark, After, Upgrade}
use Rattle.sal_script.specs.Play.{upgrade, version_for, Client, DataAct, Listener, Meeting, Open, Opened, accept_unless, act_of, after_refusal, ask, cancel, chain_begin, close_chain, deleting, domain_in, found, keep, listen, listen_at, local, look, look_at, look_with, meet, merging, mirror, op_of, putting, refused, rows_read, seen_by, set_slot, settle, shared, submit, submit_in, table_for, take_batch, unlisten, write, write_act, write_at, write_in, write_with}
use Rattle.sal_script.specs.Tables.{Versions, has_domain, has_upgrade, last_in}
use Rattle.sal_script.specs.Services.{OrRefusal, answer, collect, invoke, mount, mount_at, offer, provide, subscribe, withdraw}
use Rattle.sal_script.specs.Along.{BeganIn}
use Rattle.sal_script.proofs.Growing.{trees_later}
use Rattle.sal_script.proofs.Listed.{get_left}

-- no listener of the client is ahead of the log
abbrev pub Reached : List Domain → List Entry → Client → Type 0
Reached world log client = (slot : ℕ) (listener : Listener) → client.listeners slot ≡ Some listener → listener.version ≤ length (commits (history world log) listener.domain)

-- ---- a transaction sees the same

module _ (world : List Domain) where
  length_answers : (done : List Answered) (log : List Entry) → length (fold (answer_more world) done log) ≡ length done + length log
  length_answers done [] = omega arith
  length_answers done (e ∷ log) = length_answers (answer_more world done e) log ∙ omega (arith, length-append done (answered_as world done e (reply_to world done e.client e.call) ∷ []))

  began_stays : (more : List Entry) (done : List Answered) (place : ℕ) → place < length done → began_at (fold (answer_more world) done more) place ≡ began_at done place
  began_stays [] done place h = refl
  began_stays (e ∷ more) done place h =
      let now : List Answered = answered_as world done e (reply_to world done e.client e.call) ∷ [] in
      began_stays more (answer_more world done e) place (omega (arith, length-append done now, h))
      ∙ ap (option_and_then (λ (a : Answered). a.began)) (get_left done now place h)

  pub began_later : (log more : List Entry) (place : ℕ) → place < length log → began_at (history world (log ++ more)) place ≡ began_at (history world log) place
  began_later log more place h =
      ap (λ (a : List Answered). began_at a place) (fold-append (answer_more world) [] log more)
      ∙ began_stays more (history world log) place (omega (arith, length_answers [] log, h))

module _ (world : List Domain) (log more : List Entry) where
  abbrev longer : List Entry
  longer = log ++ more

  seen_later : (tx : Open) (store : Store) → tx.place < length log → seen_by world longer tx store ≡ seen_by world log tx store
  seen_later tx store h = ap (λ (b : Option Base). apply_ops ((unwrap_or b nowhere).trees store) store tx.ops) (began_later world log more tx.place h)

  mirror_later : (client : Client) (listener : Option Listener) → ((l : Listener) → listener ≡ Some l → l.version ≤ length (commits (history world log) l.domain))
      → mirror world longer client listener ≡ mirror world log client listener
  mirror_later client None reached = refl
  mirror_later client (Some l) reached = ap (λ (tree : List Row). local (MirrorReply l.domain l.path l.version (under tree l.path)) client) (trees_later world log more l.domain l.store l.version (reached l refl))

-- ---- and so a step has the same result

module _ (table : SchemaTable) (world : List Domain) (log more : List Entry) where
  look_later : (f : Open → List Step → List Row → StepReply) (slot : ℕ) (store : Store) (text : List ℕ) (client : Client) (tx : Option Open) → ((o : Open) → tx ≡ Some o → o.place < length log)
      → look table world (log ++ more) f slot store text client tx ≡ look table world log f slot store text client tx
  look_later f slot store text client None h = refl
  look_later f slot store text client (Some tx) h = ap (λ (rows : List Row). look_at (λ path. f tx path rows) slot store (read_path table text) tx client) (seen_later world log more tx store (h tx refl))

  act_later : (slot : ℕ) (store : Store) (path : List Step) (act : Result Act DataFault) (tx : Open) (client : Client) → tx.place < length log
      → write_act table world (log ++ more) slot store path act tx client ≡ write_act table world log slot store path act tx client
  act_later slot store path (Err fault) tx client h = refl
  act_later slot store path (Ok act) tx client h =
      ap (λ (rows : List Row). accept_unless (refusal table rows (op_of store path act)) slot (op_of store path act) tx client) (seen_later world log more tx store h)

  at_later : (slot : ℕ) (store : Store) (path : Result (List Step) PathTextFault) (data_act : DataAct) (tx : Open) (client : Client) → tx.place < length log
      → write_at table world (log ++ more) slot store path data_act tx client ≡ write_at table world log slot store path data_act tx client
  at_later slot store (Err fault) data_act tx client h = refl
  at_later slot store (Ok path) data_act tx client h = act_later slot store path (act_of table path data_act) tx client h

  in_later : (mode : Mode) (slot : ℕ) (store : Store) (text : List ℕ) (data_act : DataAct) (tx : Open) (client : Client) → tx.place < length log
      → write_in table world (log ++ more) mode slot store text data_act tx client ≡ write_in table world log mode slot store text data_act tx client
  in_later Ro slot store text data_act tx client h = refl
  in_later Wo slot store text data_act tx client h = at_later slot store (read_path table text) data_act tx client h
  in_later Rw slot store text data_act tx client h = at_later slot store (read_path table text) data_act tx client h
  in_later Checked slot store text data_act tx client h = at_later slot store (read_path table text) data_act tx client h

  write_later : (slot : ℕ) (store : Store) (text : List ℕ) (data_act : DataAct) (client : Client) (tx : Option Open) → ((o : Open) → tx ≡ Some o → o.place < length log)
      → write table world (log ++ more) slot store text data_act client tx ≡ write table world log slot store text data_act client tx
  write_later slot store text data_act client None h = refl
  write_later slot store text data_act client (Some tx) h = in_later tx.mode slot store text data_act tx client (h tx refl)

module _ (tables : List Versions) (world : List Domain) (log more : List Entry) where
  -- by the schema of the transaction's domain
  write_in_later : (client : Client) (slot : ℕ) (store : Store) (path : List ℕ) (data_act : DataAct) → BeganIn log client
      → write_with tables world (log ++ more) slot store path data_act client (client.transactions slot) ≡ write_with tables world log slot store path data_act client (client.transactions slot)
  write_in_later client slot store path data_act was = write_later (table_for tables (client.transactions slot)) world log more slot store path data_act client (client.transactions slot) (was slot)

  look_in_later : (f : Open → List Step → List Row → StepReply) (client : Client) (slot : ℕ) (store : Store) (path : List ℕ) → BeganIn log client
      → look_with tables world (log ++ more) f slot store path client (client.transactions slot) ≡ look_with tables world log f slot store path client (client.transactions slot)
  look_in_later f client slot store path was = look_later (table_for tables (client.transactions slot)) world log more f slot store path client (client.transactions slot) (was slot)

  -- its transactions began in the log, and its listeners were given nothing that is not committed there
  pub meet_later : (client : Client) (step : Move) → BeganIn log client → Reached world log client → meet tables world (log ++ more) client step ≡ meet tables world log client step
  meet_later client (Begin slot domain mode) was reached = refl
  meet_later client (Put slot store path value) was reached = write_in_later client slot store path (putting value) was
  meet_later client (Merge slot store path value) was reached = write_in_later client slot store path (merging value) was
  meet_later client (Delete slot store path) was reached = write_in_later client slot store path deleting was
  meet_later client (Read slot store path) was reached = look_in_later rows_read client slot store path was
  meet_later client (Exists slot store path) was reached = look_in_later found client slot store path was
  meet_later client (Submit slot) was reached = refl
  meet_later client (Cancel slot) was reached = refl
  meet_later client (Settle slot) was reached = refl
  meet_later client (OpenChain chain domain) was reached = refl
  meet_later client (ChainBegin chain slot mode) was reached = refl
  meet_later client (CloseChain chain) was reached = refl
  meet_later client Pump was reached = refl
  meet_later client (Listen slot domain store path) was reached = refl
  meet_later client (Take slot) was reached = refl
  meet_later client (Unlisten slot) was reached = refl
  meet_later client (Mirror slot) was reached = mirror_later world log more client (client.listeners slot) (reached slot)
  meet_later client (Provide name context) was reached = refl
  meet_later client (Withdraw name context) was reached = refl
  meet_later client (Invoke slot name context value) was reached = refl
  meet_later client (NextCall slot) was reached = refl
  meet_later client (Answer slot value) was reached = refl
  meet_later client (Collect slot) was reached = refl
  meet_later client (Subscribe name) was reached = refl
  meet_later client (Offer name value) was reached = refl
  meet_later client TakeNotes was reached = refl
  meet_later client (Mount device path) was reached = refl
  meet_later client (Unmount domain) was reached = refl
  meet_later client (MountAt path) was reached = refl
  meet_later client (Mark mark) was reached = refl
  meet_later client (After mark) was reached = refl
  meet_later client (Upgrade version) was reached = refl

-- ---- transactions began in the log

pub began_longer : (log more : List Entry) (client : Client) → BeganIn log client → BeganIn (log ++ more) client
began_longer log more client was slot tx at = let h = was slot tx at in omega (arith, h, length-append log more)

began_filled : (log : List Entry) (client : Client) (slot : ℕ) (tx : Open) → BeganIn log client → tx.place < length log → BeganIn log (record client { transactions = set_slot slot (Some tx) client.transactions })
began_filled log client slot tx was h k other at = by (nat_eq k slot) at
  where
    by : (b : Bool) → (if b then Some tx else client.transactions k) ≡ Some other → other.place < length log
    by true e = subst (λ (o : Open). o.place < length log) (same_Some tx other e) h
    by false e = was k other e

began_emptied : (log : List Entry) (client : Client) (slot : ℕ) → BeganIn log client → BeganIn log (record client { transactions = set_slot slot None client.transactions })
began_emptied log client slot was k other at = by (nat_eq k slot) at
  where
    by : (b : Bool) → (if b then None else client.transactions k) ≡ Some other → other.place < length log
    by true e = cc
    by false e = was k other e

-- where the client answers by itself; its listeners stay
abbrev pub BegunIf : List Entry → Client → Meeting → Type 0
BegunIf log client (local r next) = BeganIn log next × (next.listeners ≡ client.listeners)
BegunIf log client (shared call) = ⊤

module _ (table : SchemaTable) (world : List Domain) (over log : List Entry) (client : Client) (was : BeganIn log client) where
  unless_begun : (fault : Option TxFault) (slot : ℕ) (op : Op) (tx : Open) → tx.place < length log → BegunIf log client (accept_unless fault slot op tx client)
  unless_begun None slot op tx h = (began_filled log client slot (record tx { ops = tx.ops ++ op ∷ [] }) was h, refl)
  unless_begun (Some fault) slot op tx h = (began_filled log client slot (record tx { ops = after_refusal fault tx.mode op.store tx.ops }) was h, refl)

  act_begun : (slot : ℕ) (store : Store) (path : List Step) (act : Result Act DataFault) (tx : Open) → tx.place < length log → BegunIf log client (write_act table world over slot store path act tx client)
  act_begun slot store path (Err fault) tx h = (was, refl)
  act_begun slot store path (Ok act) tx h = unless_begun (refusal table (seen_by world over tx store) (op_of store path act)) slot (op_of store path act) tx h

  at_begun : (slot : ℕ) (store : Store) (path : Result (List Step) PathTextFault) (data_act : DataAct) (tx : Open) → tx.place < length log → BegunIf log client (write_at table world over slot store path data_act tx client)
  at_begun slot store (Err fault) data_act tx h = (was, refl)
  at_begun slot store (Ok path) data_act tx h = act_begun slot store path (act_of table path data_act) tx h

  in_begun : (mode : Mode) (slot : ℕ) (store : Store) (text : List ℕ) (data_act : DataAct) (tx : Open) → tx.place < length log → BegunIf log client (write_in table world over mode slot store text data_act tx client)
  in_begun Ro slot store text data_act tx h = (was, refl)
  in_begun Wo slot store text data_act tx h = at_begun slot store (read_path table text) data_act tx h
  in_begun Rw slot store text data_act tx h = at_begun slot store (read_path table text) data_act tx h
  in_begun Checked slot store text data_act tx h = at_begun slot store (read_path table text) data_act tx h

  write_begun : (slot : ℕ) (store : Store) (text : List ℕ) (data_act : DataAct) (tx : Option Open) → ((o : Open) → tx ≡ Some o → o.place < length log) → BegunIf log client (write table world over slot store text data_act client tx)
  write_begun slot store text data_act None h = (was, refl)
  write_begun slot store text data_act (Some tx) h = in_begun tx.mode slot store text data_act tx (h tx refl)

  look_at_begun : (f : List Step → StepReply) (slot : ℕ) (store : Store) (path : Result (List Step) PathTextFault) (tx : Open) → tx.place < length log → BegunIf log client (look_at f slot store path tx client)
  look_at_begun f slot store (Err fault) tx h = (was, refl)
  look_at_begun f slot store (Ok path) tx h = (began_filled log client slot (record tx { ops = recorded tx.mode store path tx.ops }) was h, refl)

  look_begun : (f : Open → List Step → List Row → StepReply) (slot : ℕ) (store : Store) (text : List ℕ) (tx : Option Open) → ((o : Open) → tx ≡ Some o → o.place < length log) → BegunIf log client (look table world over f slot store text client tx)
  look_begun f slot store text None h = (was, refl)
  look_begun f slot store text (Some tx) h = look_at_begun (λ path. f tx path (seen_by world over tx store)) slot store (read_path table text) tx (h tx refl)

module _ (tables : List Versions) (world : List Domain) (over log : List Entry) (client : Client) (was : BeganIn log client) where
  submit_in_begun : (tx : Open) (mode : Mode) → BegunIf log client (submit_in tx mode client)
  submit_in_begun tx Ro = (was, refl)
  submit_in_begun tx Wo = tt
  submit_in_begun tx Rw = tt
  submit_in_begun tx Checked = tt

  submit_begun : (tx : Option Open) → BegunIf log client (submit client tx)
  submit_begun None = (was, refl)
  submit_begun (Some tx) = submit_in_begun tx tx.mode

  cancel_begun : (tx : Option Open) → BegunIf log client (cancel client tx)
  cancel_begun None = (was, refl)
  cancel_begun (Some tx) = tt

  settle_begun : (receipt : Option ℕ) → BegunIf log client (settle client receipt)
  settle_begun None = (was, refl)
  settle_begun (Some receipt) = tt

  chain_begin_begun : (mode : Mode) (chain : Option Opened) → BegunIf log client (chain_begin mode client chain)
  chain_begin_begun mode None = (was, refl)
  chain_begin_begun mode (Some chain) = tt

  close_chain_begun : (chain : Option Opened) → BegunIf log client (close_chain client chain)
  close_chain_begun None = (was, refl)
  close_chain_begun (Some chain) = tt

  listen_at_begun : (domain : ℕ) (store : Store) (path : Result (List Step) PathTextFault) → BegunIf log client (listen_at domain store path client)
  listen_at_begun domain store (Err fault) = (was, refl)
  listen_at_begun domain store (Ok path) = tt

  listen_begun : (domain : ℕ) (store : Store) (path : Result (List Step) PathTextFault) → BegunIf log client (listen tables domain store path client)
  listen_begun domain store path =
      elim (has_domain tables domain) as (λ has. BegunIf log client (if has then listen_at domain store path client else refused NoDevice client)) [
        | true ↦ listen_at_begun domain store path
        | false ↦ (was, refl)
      ]

  upgrade_begun : (version : ℕ) → BegunIf log client (upgrade tables version client)
  upgrade_begun version = elim (has_upgrade tables version) as (λ has. BegunIf log client (if has then shared (called.Upgrade version) else refused NoUpgrade client)) [ true ↦ tt | false ↦ (was, refl) ]

  take_begun : (listener : Option Listener) → BegunIf log client (take_batch client listener)
  take_begun None = (was, refl)
  take_begun (Some listener) = tt

  unlisten_begun : (listener : Option Listener) → BegunIf log client (unlisten client listener)
  unlisten_begun None = (was, refl)
  unlisten_begun (Some listener) = tt

  mirror_begun : (listener : Option Listener) → BegunIf log client (mirror world over client listener)
  mirror_begun None = (was, refl)
  mirror_begun (Some listener) = (was, refl)

  asked_begun : (r : OrRefusal Call) → BegunIf log client (ask r client)
  asked_begun (Ok call) = tt
  asked_begun (Err refusal) = (was, refl)

  -- by the schema of the transaction's domain
  write_in_begun : (slot : ℕ) (store : Store) (path : List ℕ) (data_act : DataAct) → BegunIf log client (write_with tables world over slot store path data_act client (client.transactions slot))
  write_in_begun slot store path data_act = write_begun (table_for tables (client.transactions slot)) world over log client was slot store path data_act (client.transactions slot) (was slot)

  look_in_begun : (f : Open → List Step → List Row → StepReply) (slot : ℕ) (store : Store) (path : List ℕ) → BegunIf log client (look_with tables world over f slot store path client (client.transactions slot))
  look_in_begun f slot store path = look_begun (table_for tables (client.transactions slot)) world over log client was f slot store path (client.transactions slot) (was slot)

  pub meet_begun : (step : Move) → BegunIf log client (meet tables world over client step)
  meet_begun (Begin slot domain mode) = tt
  meet_begun (Put slot store path value) = write_in_begun slot store path (putting value)
  meet_begun (Merge slot store path value) = write_in_begun slot store path (merging value)
  meet_begun (Delete slot store path) = write_in_begun slot store path deleting
  meet_begun (Read slot store path) = look_in_begun rows_read slot store path
  meet_begun (Exists slot store path) = look_in_begun found slot store path
  meet_begun (Submit slot) = submit_begun (client.transactions slot)
  meet_begun (Cancel slot) = cancel_begun (client.transactions slot)
  meet_begun (Settle slot) = settle_begun (client.receipts slot)
  meet_begun (OpenChain chain domain) = tt
  meet_begun (ChainBegin chain slot mode) = chain_begin_begun mode (client.chains chain)
  meet_begun (CloseChain chain) = close_chain_begun (client.chains chain)
  meet_begun Pump = tt
  meet_begun (Listen slot domain store path) = listen_begun domain store (read_path (last_in tables domain) path)
  meet_begun (Take slot) = take_begun (client.listeners slot)
  meet_begun (Unlisten slot) = unlisten_begun (client.listeners slot)
  meet_begun (Mirror slot) = mirror_begun (client.listeners slot)
  meet_begun (Provide name context) = asked_begun (provide (last_in tables 0) name context)
  meet_begun (Withdraw name context) = asked_begun (withdraw (last_in tables 0) name context)
  meet_begun (Invoke slot name context value) = asked_begun (invoke (last_in tables 0) name context value)
  meet_begun (NextCall slot) = tt
  meet_begun (Answer slot value) = asked_begun (answer (last_in tables 0) (client.handed slot) value)
  meet_begun (Collect slot) = asked_begun (collect (client.invoked slot))
  meet_begun (Subscribe name) = asked_begun (subscribe (last_in tables 0) name)
  meet_begun (Offer name value) = asked_begun (offer (last_in tables 0) name value)
  meet_begun TakeNotes = tt
  meet_begun (Mount device path) = asked_begun (mount (last_in tables 0) device path)
  meet_begun (Unmount domain) = tt
  meet_begun (MountAt path) = asked_begun (mount_at (last_in tables 0) path)
  meet_begun (Mark mark) = tt
  meet_begun (After mark) = tt
  meet_begun (Upgrade version) = upgrade_begun version

-- what a shared call leaves, with its entry in the log
pub keep_begun : (log : List Entry) (e : Entry) (version : ℕ) (step : Move) (r : Reply) (client : Client) → BeganIn log client → BeganIn (log ++ e ∷ []) (keep (record { place = length log; version = version }) step r client)
keep_begun log e version (Begin slot domain mode) (Begun commit on) client was =
    began_filled (log ++ e ∷ []) client slot (record { place = length log; domain = domain; version = version_for domain version; mode = mode; ops = [] }) (began_longer log (e ∷ []) client was) (omega (arith, length-append log (e ∷ [])))
keep_begun log e version (ChainBegin chain slot mode) (Begun commit on) client was =
    began_filled (log ++ e ∷ []) client slot (record { place = length log; domain = domain_in (client.chains chain); version = version_for (domain_in (client.chains chain)) version; mode = mode; ops = [] }) (began_longer log (e ∷ []) client was) (omega (arith, length-append log (e ∷ [])))
keep_begun log e version (OpenChain chain domain) (Chain id) client was = began_longer log (e ∷ []) client was
keep_begun log e version (Submit slot) (Receipt number) client was = began_emptied (log ++ e ∷ []) client slot (began_longer log (e ∷ []) client was)
keep_begun log e version (Cancel slot) Done client was = began_emptied (log ++ e ∷ []) client slot (began_longer log (e ∷ []) client was)
keep_begun log e version (Listen slot domain store path) (Listening id at p opened) client was = began_longer log (e ∷ []) client was
keep_begun log e version (Take slot) (Batch domain batch) client was = began_longer log (e ∷ []) client was
keep_begun log e version (Invoke slot name context value) (CallMade id) client was = began_longer log (e ∷ []) client was
keep_begun log e version (NextCall slot) (Request request) client was = began_longer log (e ∷ []) client was
keep_begun log e version step r client was = began_longer log (e ∷ []) client was
