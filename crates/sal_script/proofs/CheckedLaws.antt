-- What a transaction read is known to its operations, which only grow.
use Rattle.std.proofs.Common.{◌≡◌, ℕ, Bool, true, false, List, [], ◌∷◌, ◌++◌, ◌||◌, Option, None, Some, Result, Ok, Err, if◌then◌else◌, nat_eq, refl, ap, sym, ◌∙◌, subst, append-nil}
use Rattle.std.specs.Prelude.{⊤}
use Rattle.std.proofs.lemmas.Bool.{eqb-true, or_left, or_right}
use Rattle.std.proofs.lemmas.List.Folds.{list_any-append}
use Rattle.std.proofs.lemmas.Option.{same_Some}
use Rattle.sal_types.specs.declared.value.Store.{Store}
use Rattle.sal_types.specs.declared.value.Store.TheVariants.{Config, Oper}
use Rattle.sal_types.specs.declared.value.Step.{Step}
use Rattle.sal_types.specs.declared.row.Row.{Row}
use Rattle.sal_types.specs.Prefix.{is_prefix}
use Rattle.sal_types.proofs.Prefixes.{is_prefix-append}
use Rattle.sal_rows.specs.declared.op.Op.{Op}
use Rattle.sal_rows.specs.declared.op.Act.{Act}
use Rattle.sal_rows.specs.declared.outcome.Mode.{Mode}
use Rattle.sal_rows.specs.declared.outcome.Mode.TheVariants.{Ro, Wo, Rw, Checked}
use Rattle.sal_rows.specs.Apply.{same_store}
use Rattle.sal_rows.specs.PathClash.{is_covered}
use Rattle.sal_rows.specs.Reads.{is_known, read_of, recorded, was_read}
use Rattle.sal_schema.specs.declared.table.SchemaTable.{SchemaTable}
use Rattle.sal_history.specs.declared.call.Call.{Call}
use Rattle.sal_history.specs.declared.call.Call.TheVariants as called
use Rattle.sal_history.specs.declared.call.Entry.{Entry}
use Rattle.sal_history.specs.World.{Domain}
use Rattle.sal_pathtext.specs.declared.fault.PathTextFault.{PathTextFault}
use Rattle.sal_pathtext.specs.Read.{read_path}
use Rattle.sal_data.specs.declared.fault.DataFault.{DataFault}
use Rattle.sal_rules.specs.declared.fault.TxFault.{TxFault}
use Rattle.sal_rules.specs.declared.fault.TxFault.TheVariants as fault
use Rattle.sal_rules.specs.Refusals.{refusal}
use Rattle.sal_script.specs.declared.reply.StepReply.{StepReply}
use Rattle.sal_script.specs.declared.reply.StepReply.TheVariants.{Refused}
use Rattle.sal_script.specs.declared.reply.StepRefusal.TheVariants.{NoDevice, NoUpgrade, Write}
use Rattle.sal_script.specs.CheckedLaws.{Grows, KnownStays, LooksAreKnown, MissedParentsAreKnown, TransactionsGrow}
use Rattle.sal_script.specs.Moves.{Move, Begin, Put, Merge, Delete, Read, Exists, Submit, Cancel, Settle, OpenChain, ChainBegin, CloseChain, Pump, Listen, Take, Unlisten, Mirror, Provide, Withdraw, Invoke, NextCall, Answer, Collect, Subscribe, Offer, TakeNotes, Mount, Unmount, MountAt, Mark, After, Upgrade}
use Rattle.sal_script.specs.Play.{upgrade, Client, DataAct, Listener, Meeting, Open, Opened, accept_unless, act_of, after_refusal, ask, cancel, chain_begin, close_chain, deleting, found, listen, listen_at, local, look, look_at, look_reply, look_with, meet, merging, mirror, op_of, putting, refused, rows_read, seen_by, settle, shared, submit, submit_in, table_for, take_batch, unlisten, with_ops, write, write_act, write_at, write_in, write_with}
use Rattle.sal_script.specs.Services.{OrRefusal, answer, collect, invoke, mount, mount_at, offer, provide, subscribe, withdraw}
use Rattle.sal_script.specs.Tables.{Versions, has_domain, has_upgrade, last_in}

-- ---- what is known

itself : (p : List Step) → is_prefix p p ≡ true
itself p = ap (is_prefix p) (sym (append-nil p)) ∙ is_prefix-append p []

same : (s : Store) → same_store s s ≡ true
same Config = refl
same Oper = refl

-- a path that was just read is known
just_read : (s : Store) (p : List Step) → was_read (read_of s p ∷ []) s p ≡ true
just_read s p = rw (same s, itself p) refl

pub known_stays : KnownStays
known_stays ops more s p known = elim (is_covered ops s p) as (λ b. is_covered ops s p ≡ b → (b || was_read ops s p) ≡ true → is_known (ops ++ more) s p ≡ true) [
  | true ↦ λ covered _. or_left (is_covered (ops ++ more) s p) (was_read (ops ++ more) s p) (list_any-append _ ops more ∙ ap (λ b. b || is_covered more s p) covered)
  | false ↦ λ covered was. or_right (is_covered (ops ++ more) s p) (was_read (ops ++ more) s p) (list_any-append _ ops more ∙ ap (λ b. b || was_read more s p) was)
] refl known

known_by : (b : Bool) (s : Store) (p : List Step) (ops : List Op) → is_known ops s p ≡ b → is_known (if b then ops else ops ++ read_of s p ∷ []) s p ≡ true
known_by true s p ops known = known
known_by false s p ops known =
    or_right (is_covered (ops ++ read_of s p ∷ []) s p) (was_read (ops ++ read_of s p ∷ []) s p)
    (list_any-append _ ops (read_of s p ∷ []) ∙ or_right (was_read ops s p) (was_read (read_of s p ∷ []) s p) (just_read s p))

-- what was recorded is known
known_recorded : (s : Store) (p : List Step) (ops : List Op) → is_known (recorded Checked s p ops) s p ≡ true
known_recorded s p ops = known_by (is_known ops s p) s p ops refl

-- ---- looks

pub looks_are_known : LooksAreKnown
looks_are_known table world log f slot store text path client tx is read = record {
  answered =
      ap (λ (found : Result (List Step) PathTextFault). look_at (λ p. f tx p (seen_by world log tx store)) slot store found tx client) read
      ∙ (λ i. local (look_reply (is i) tx.domain (f tx path (seen_by world log tx store))) (with_ops slot (recorded (is i) store path tx.ops) tx client));
  known = known_recorded store path tx.ops;
}

pub missed_parents_are_known : MissedParentsAreKnown
missed_parents_are_known table world log slot op parent client tx is why = record {
  answered =
      ap (λ (o : Option TxFault). accept_unless o slot op tx client) why
      ∙ (λ i. local (Refused (Write tx.domain (fault.ParentMissing parent))) (with_ops slot (recorded (is i) op.store parent tx.ops) tx client));
  known = known_recorded op.store parent tx.ops;
}

-- ---- operations grow

-- each transaction of the client is there again, with further operations at most
abbrev Stay : Client → Client → Type 0
Stay client next = (slot : ℕ) (tx : Open) → client.transactions slot ≡ Some tx → (new : Open) × (next.transactions slot ≡ Some new) × Grows tx new

-- if the client answers by itself
abbrev StayIf : Client → Meeting → Type 0
StayIf client (local r next) = Stay client next
StayIf client (shared call) = ⊤

grown : (tx : Open) → Grows tx tx
grown tx = record { more = []; same = λ i. record tx { ops = sym (append-nil tx.ops) i } }

stay : (client : Client) → Stay client client
stay client slot tx at = (tx, at, grown tx)

-- the transaction of one slot has further operations
stay_with : (client : Client) (slot : ℕ) (old : Open) (ops more : List Op) → client.transactions slot ≡ Some old → ops ≡ old.ops ++ more → Stay client (with_ops slot ops old client)
stay_with client slot old ops more here is k tx at = by (nat_eq k slot) refl
  where
    by : (b : Bool) → nat_eq k slot ≡ b → (new : Open) × ((if b then Some (record old { ops = ops }) else client.transactions k) ≡ Some new) × Grows tx new
    by true e =
        let one : tx ≡ old = same_Some tx old (sym at ∙ ap client.transactions (eqb-true k slot e) ∙ here) in
        subst (λ (t : Open). (new : Open) × (Some (record old { ops = ops }) ≡ Some new) × Grows t new) (sym one)
        (record old { ops = ops }, refl, record { more = more; same = λ i. record old { ops = is i } })
    by false e = (tx, at, grown tx)

-- a path that was read may be one operation more
added_by : (b : Bool) (s : Store) (p : List Step) (ops : List Op) → (more : List Op) × ((if b then ops else ops ++ read_of s p ∷ []) ≡ ops ++ more)
added_by true s p ops = ([], sym (append-nil ops))
added_by false s p ops = (read_of s p ∷ [], refl)

added : (mode : Mode) (s : Store) (p : List Step) (ops : List Op) → (more : List Op) × (recorded mode s p ops ≡ ops ++ more)
added Ro s p ops = ([], sym (append-nil ops))
added Wo s p ops = ([], sym (append-nil ops))
added Rw s p ops = ([], sym (append-nil ops))
added Checked s p ops = added_by (is_known ops s p) s p ops

refused_added : (why : TxFault) (mode : Mode) (s : Store) (ops : List Op) → (more : List Op) × (after_refusal why mode s ops ≡ ops ++ more)
refused_added (fault.ParentMissing path) mode s ops = added mode s path ops
refused_added why mode s ops = ([], sym (append-nil ops))

module _ (table : SchemaTable) (world : List Domain) (log : List Entry) (client : Client) (slot : ℕ) where
  unless_stay : (why : Option TxFault) (op : Op) (tx : Open) → client.transactions slot ≡ Some tx → StayIf client (accept_unless why slot op tx client)
  unless_stay None op tx here = stay_with client slot tx (tx.ops ++ op ∷ []) (op ∷ []) here refl
  unless_stay (Some why) op tx here =
      let more = refused_added why tx.mode op.store tx.ops in
      stay_with client slot tx (after_refusal why tx.mode op.store tx.ops) more.0 here more.1

  act_stay : (act : Result Act DataFault) (store : Store) (path : List Step) (tx : Open) → client.transactions slot ≡ Some tx → StayIf client (write_act table world log slot store path act tx client)
  act_stay (Err why) store path tx here = stay client
  act_stay (Ok act) store path tx here = unless_stay (refusal table (seen_by world log tx store) (op_of store path act)) (op_of store path act) tx here

  at_stay : (path : Result (List Step) PathTextFault) (store : Store) (data_act : DataAct) (tx : Open) → client.transactions slot ≡ Some tx → StayIf client (write_at table world log slot store path data_act tx client)
  at_stay (Err why) store data_act tx here = stay client
  at_stay (Ok path) store data_act tx here = act_stay (act_of table path data_act) store path tx here

  in_stay : (mode : Mode) (store : Store) (text : List ℕ) (data_act : DataAct) (tx : Open) → client.transactions slot ≡ Some tx → StayIf client (write_in table world log mode slot store text data_act tx client)
  in_stay Ro store text data_act tx here = stay client
  in_stay Wo store text data_act tx here = at_stay (read_path table text) store data_act tx here
  in_stay Rw store text data_act tx here = at_stay (read_path table text) store data_act tx here
  in_stay Checked store text data_act tx here = at_stay (read_path table text) store data_act tx here

  write_stay : (store : Store) (text : List ℕ) (data_act : DataAct) (tx : Option Open) → client.transactions slot ≡ tx → StayIf client (write table world log slot store text data_act client tx)
  write_stay store text data_act None here = stay client
  write_stay store text data_act (Some tx) here = in_stay tx.mode store text data_act tx here

  look_at_stay : (f : List Step → StepReply) (store : Store) (path : Result (List Step) PathTextFault) (tx : Open) → client.transactions slot ≡ Some tx → StayIf client (look_at f slot store path tx client)
  look_at_stay f store (Err why) tx here = stay client
  look_at_stay f store (Ok path) tx here =
      let more = added tx.mode store path tx.ops in
      stay_with client slot tx (recorded tx.mode store path tx.ops) more.0 here more.1

  look_stay : (f : Open → List Step → List Row → StepReply) (store : Store) (text : List ℕ) (tx : Option Open) → client.transactions slot ≡ tx → StayIf client (look table world log f slot store text client tx)
  look_stay f store text None here = stay client
  look_stay f store text (Some tx) here = look_at_stay (λ path. f tx path (seen_by world log tx store)) store (read_path table text) tx here

module _ (client : Client) where
  submit_in_stay : (tx : Open) (mode : Mode) → StayIf client (submit_in tx mode client)
  submit_in_stay tx Ro = stay client
  submit_in_stay tx Wo = tt
  submit_in_stay tx Rw = tt
  submit_in_stay tx Checked = tt

  submit_stay : (tx : Option Open) → StayIf client (submit client tx)
  submit_stay None = stay client
  submit_stay (Some tx) = submit_in_stay tx tx.mode

  cancel_stay : (tx : Option Open) → StayIf client (cancel client tx)
  cancel_stay None = stay client
  cancel_stay (Some tx) = tt

  settle_stay : (receipt : Option ℕ) → StayIf client (settle client receipt)
  settle_stay None = stay client
  settle_stay (Some receipt) = tt

  chain_begin_stay : (mode : Mode) (chain : Option Opened) → StayIf client (chain_begin mode client chain)
  chain_begin_stay mode None = stay client
  chain_begin_stay mode (Some chain) = tt

  close_chain_stay : (chain : Option Opened) → StayIf client (close_chain client chain)
  close_chain_stay None = stay client
  close_chain_stay (Some chain) = tt

  listen_at_stay : (domain : ℕ) (store : Store) (path : Result (List Step) PathTextFault) → StayIf client (listen_at domain store path client)
  listen_at_stay domain store (Err why) = stay client
  listen_at_stay domain store (Ok path) = tt

  listen_stay : (tables : List Versions) (domain : ℕ) (store : Store) (path : Result (List Step) PathTextFault) → StayIf client (listen tables domain store path client)
  listen_stay tables domain store path =
      elim (has_domain tables domain) as (λ has. StayIf client (if has then listen_at domain store path client else refused NoDevice client)) [
        | true ↦ listen_at_stay domain store path
        | false ↦ stay client
      ]

  upgrade_stay : (tables : List Versions) (version : ℕ) → StayIf client (upgrade tables version client)
  upgrade_stay tables version = elim (has_upgrade tables version) as (λ has. StayIf client (if has then shared (called.Upgrade version) else refused NoUpgrade client)) [ true ↦ tt | false ↦ stay client ]

  take_stay : (listener : Option Listener) → StayIf client (take_batch client listener)
  take_stay None = stay client
  take_stay (Some listener) = tt

  unlisten_stay : (listener : Option Listener) → StayIf client (unlisten client listener)
  unlisten_stay None = stay client
  unlisten_stay (Some listener) = tt

  mirror_stay : (world : List Domain) (log : List Entry) (listener : Option Listener) → StayIf client (mirror world log client listener)
  mirror_stay world log None = stay client
  mirror_stay world log (Some listener) = stay client

  asked_stay : (r : OrRefusal Call) → StayIf client (ask r client)
  asked_stay (Ok call) = tt
  asked_stay (Err refusal) = stay client

module _ (tables : List Versions) (world : List Domain) (log : List Entry) (client : Client) where
  writes_stay : (slot : ℕ) (store : Store) (text : List ℕ) (data_act : DataAct) → StayIf client (write_with tables world log slot store text data_act client (client.transactions slot))
  writes_stay slot store text data_act = write_stay (table_for tables (client.transactions slot)) world log client slot store text data_act (client.transactions slot) refl

  looks_stay : (f : Open → List Step → List Row → StepReply) (slot : ℕ) (store : Store) (text : List ℕ) → StayIf client (look_with tables world log f slot store text client (client.transactions slot))
  looks_stay f slot store text = look_stay (table_for tables (client.transactions slot)) world log client slot f store text (client.transactions slot) refl

  meet_stay : (step : Move) → StayIf client (meet tables world log client step)
  meet_stay (Begin slot domain mode) = tt
  meet_stay (Put slot store path value) = writes_stay slot store path (putting value)
  meet_stay (Merge slot store path value) = writes_stay slot store path (merging value)
  meet_stay (Delete slot store path) = writes_stay slot store path deleting
  meet_stay (Read slot store path) = looks_stay rows_read slot store path
  meet_stay (Exists slot store path) = looks_stay found slot store path
  meet_stay (Submit slot) = submit_stay client (client.transactions slot)
  meet_stay (Cancel slot) = cancel_stay client (client.transactions slot)
  meet_stay (Settle slot) = settle_stay client (client.receipts slot)
  meet_stay (OpenChain chain domain) = tt
  meet_stay (ChainBegin chain slot mode) = chain_begin_stay client mode (client.chains chain)
  meet_stay (CloseChain chain) = close_chain_stay client (client.chains chain)
  meet_stay Pump = tt
  meet_stay (Listen slot domain store path) = listen_stay client tables domain store (read_path (last_in tables domain) path)
  meet_stay (Take slot) = take_stay client (client.listeners slot)
  meet_stay (Unlisten slot) = unlisten_stay client (client.listeners slot)
  meet_stay (Mirror slot) = mirror_stay client world log (client.listeners slot)
  meet_stay (Provide name context) = asked_stay client (provide (last_in tables 0) name context)
  meet_stay (Withdraw name context) = asked_stay client (withdraw (last_in tables 0) name context)
  meet_stay (Invoke slot name context value) = asked_stay client (invoke (last_in tables 0) name context value)
  meet_stay (NextCall slot) = tt
  meet_stay (Answer slot value) = asked_stay client (answer (last_in tables 0) (client.handed slot) value)
  meet_stay (Collect slot) = asked_stay client (collect (client.invoked slot))
  meet_stay (Subscribe name) = asked_stay client (subscribe (last_in tables 0) name)
  meet_stay (Offer name value) = asked_stay client (offer (last_in tables 0) name value)
  meet_stay TakeNotes = tt
  meet_stay (Mount device path) = asked_stay client (mount (last_in tables 0) device path)
  meet_stay (Unmount domain) = tt
  meet_stay (MountAt path) = asked_stay client (mount_at (last_in tables 0) path)
  meet_stay (Mark mark) = tt
  meet_stay (After mark) = tt
  meet_stay (Upgrade version) = upgrade_stay client tables version

pub transactions_grow : TransactionsGrow
transactions_grow tables world log client next step r met = subst (StayIf client) met (meet_stay tables world log client step)
