-- The meaning of the log of shared calls: each entry's reply, the receipts, their outcomes, the commits and the trees.
-- There is no other state; every definition here is a function of the entries.
use Rattle.std.specs.Prelude.{ℕ, Bool, false, not, zero, suc, ◌+◌, ◌-◌, List, [], ◌∷◌, ◌++◌, length, Option, Some, None, if◌then◌else◌, nat_eq, nat_le, nat_lt, slice_get, unwrap_or, option_and_then, count_by}
use Rattle.std.specs.List.{fold, filter_map, flat_map, list_any}
use Rattle.std.specs.Option.{option_map, option_map_or, option_or}
use Rattle.sal_types.specs.declared.value.Store.{Store}
use Rattle.sal_types.specs.declared.value.Step.{Step}
use Rattle.sal_types.specs.declared.row.Row.{Row}
use Rattle.sal_rows.specs.declared.op.Op.{Op}
use Rattle.sal_rows.specs.declared.outcome.CallFault.{CallFault}
use Rattle.sal_rows.specs.declared.outcome.CallFault.TheVariants.{NoDomain, NoListener, TooManyListeners, PipelineFull, TxSpent, PreviousOpen, ChainFailed, ChainClosed, WrongVersion}
use Rattle.sal_rows.specs.declared.outcome.Outcome.{Outcome}
use Rattle.sal_rows.specs.declared.outcome.Outcome.TheVariants.{ChainFailed as FailedBy, Unmounted}
use Rattle.sal_rows.specs.Apply.{apply_ops}
use Rattle.sal_rows.specs.Batches.{batch, opened}
use Rattle.sal_rows.specs.Commits.{tree_after, tree_at}
use Rattle.sal_rows.specs.Spans.{is_of_chain, spans}
use Rattle.sal_schema.specs.declared.table.SchemaTable.{SchemaTable}
use Rattle.sal_schema.specs.Fitting.{has_own_row}
use Rattle.sal_history.specs.declared.call.Call.{Call}
use Rattle.sal_history.specs.declared.call.Call.TheVariants.{Begin, OpenChain, ChainBegin, CloseChain, Submit, Cancel, Settle, Pump, Listen, Take, Unlisten, Provide, Withdraw, Invoke, NextCall, Answer, Collect, Subscribe, Offer, TakeNotes, Mount, Unmount, MountAt, Mark, After, Upgrade}
use Rattle.sal_history.specs.declared.call.Entry.{Entry}
use Rattle.sal_history.specs.declared.reply.Reply.{Reply}
use Rattle.sal_history.specs.declared.reply.Reply.TheVariants.{Begun, Chain, Accepted, Receipt, Settled, Decided, Nothing, Listener, Batch, Found, Late, Refused}
pub use Rattle.sal_history.specs.Answered.{Answered}
use Rattle.sal_history.specs.Listeners.{Listening, has_listener, listener_at, listeners, live_listeners, version}
use Rattle.sal_history.specs.Numbered.{numbered}
use Rattle.sal_history.specs.Outcome.{decide}
use Rattle.sal_rpc.specs.declared.call.RpcCall.TheVariants as rpcs
use Rattle.sal_note.specs.declared.call.NoteCall.TheVariants as notes
use Rattle.sal_mount.specs.declared.call.MountCall.TheVariants as mount_calls
use Rattle.sal_history.specs.Services.{by_mounts, by_notes, by_router, is_live_among, rpc_of, rpc_reply}
use Rattle.sal_history.specs.Submissions.{Base, Sent, done_chains, done_ops, failing, last_from, pending_receipt, view_of}
use Rattle.sal_history.specs.Versions.{broken_by, schema_version, tables_now}
use Rattle.sal_history.specs.World.{Domain, last_of, opening_of, rules_of, table_of}

-- the submissions, by receipt from 1 on
abbrev pub sents : List Answered → List Sent
sents answered = filter_map (λ a. a.sent) answered

-- the outcomes of the decided receipts, from receipt 1 on
abbrev pub outcomes : List Answered → List Outcome
outcomes answered = flat_map (λ a. a.decided) answered

abbrev pub commits : List Answered → ℕ → List (List Op)
commits answered domain = done_ops domain (sents answered) (outcomes answered)

-- domain 0 is always live, a device's domain from its mount to its unmount
abbrev pub is_live : List Domain → List Answered → ℕ → Bool
is_live world answered domain = is_live_among (length world) answered domain

-- ---- transactions

-- the transaction that the entry at the index began
abbrev pub began_at : List Answered → ℕ → Option Base
began_at answered place = option_and_then (λ a. a.began) (slice_get answered place)

-- no trees at commit 0 of domain 0, for an index at which no transaction began; no caller uses one
abbrev pub nowhere : Base
nowhere = record { domain = 0; commit = 0; chain = None; trees = λ s. [] }

-- the submission of a call with this reply
abbrev pub sent_by : List Answered → Call → Reply → Option Sent
sent_by answered (Submit place ops) (Receipt n) = Some (record { base = unwrap_or (began_at answered place) nowhere; ops = ops })
sent_by answered call reply = None

-- a call with this reply submitted or cancelled the transaction that began at the index
abbrev pub spends : Call → Reply → ℕ → Bool
spends (Submit at ops) (Receipt n) place = nat_eq at place
spends (Cancel at) reply place = nat_eq at place
spends call reply place = false

-- a transaction is spent once it was submitted or cancelled
abbrev pub is_spent : List Answered → ℕ → Bool
is_spent answered place = list_any (λ a. spends a.entry.call a.reply place) answered

-- ---- chains, by their ids from 1 on

-- the domain of the chain that a call with this reply opened
abbrev pub opened_chain : Call → Reply → Option ℕ
opened_chain (OpenChain domain) (Chain id) = Some domain
opened_chain call reply = None

-- the domains of the chains that were opened
abbrev pub chain_domains : List Answered → List ℕ
chain_domains answered = filter_map (λ a. opened_chain a.entry.call a.reply) answered

-- the domain of a chain; no caller uses one that was not opened
abbrev pub domain_of : List Answered → ℕ → ℕ
domain_of answered chain = unwrap_or (numbered (chain_domains answered) chain) 0

-- a call with this reply closed the chain
abbrev pub closes : Call → Reply → ℕ → Bool
closes (CloseChain id) Accepted chain = nat_eq id chain
closes call reply chain = false

abbrev pub is_closed : List Answered → ℕ → Bool
is_closed answered chain = list_any (λ a. closes a.entry.call a.reply chain) answered

-- the entry began a transaction of the chain
abbrev pub begins_in : ℕ → Answered → Bool
begins_in chain a = option_map_or (λ b. is_of_chain (Some chain) b.chain) a.began false

-- the index of the entry that began the chain's last transaction
abbrev pub last_begun : List Answered → ℕ → Option ℕ
last_begun answered chain = last_from 0 (begins_in chain) answered

-- that transaction is neither submitted nor cancelled
abbrev pub has_open : List Answered → ℕ → Bool
has_open answered chain = option_map_or (λ place. not (is_spent answered place)) (last_begun answered chain) false

-- the receipt by which the chain failed
abbrev pub failed_by : List Answered → ℕ → Option ℕ
failed_by answered chain = failing (Some chain) (sents answered) (outcomes answered)

-- the pending receipt that the chain's next transaction follows
abbrev pub stands_on : List Answered → ℕ → Option ℕ
stands_on answered chain = pending_receipt (sents answered) (outcomes answered) (Some chain)

abbrev pub fault_if : Bool → CallFault → Option CallFault
fault_if test fault = if test then Some fault else None

-- Why no transaction begins in the chain: it is closed, it has failed (`onTransactionChainFailed` of the MD-SAL developer
-- guide), its last transaction is open, or its domain is not live.
abbrev pub chain_refusal : List Domain → List Answered → ℕ → Option CallFault
chain_refusal world answered chain =
    option_or (fault_if (is_closed answered chain) ChainClosed)
    (option_or (option_map ChainFailed (failed_by answered chain))
    (option_or (fault_if (has_open answered chain) PreviousOpen)
    (fault_if (not (is_live world answered (domain_of answered chain))) (NoDomain (domain_of answered chain)))))

-- a refusal, or else the good reply
abbrev pub refused_or : Option CallFault → Reply → Reply
refused_or None good = good
refused_or (Some fault) good = Refused fault

-- ---- marks

abbrev pub marks : Call → ℕ → Bool
marks (Mark m) mark = nat_eq m mark
marks call mark = false

-- the mark was set
abbrev pub is_marked : List Answered → ℕ → Bool
is_marked answered mark = list_any (λ a. marks a.entry.call mark) answered

-- ---- listeners

-- why the domain gets no further listener: it is not live, or 256 are
abbrev pub listen_refusal : List Domain → List Answered → ℕ → Option CallFault
listen_refusal world answered domain =
    option_or (fault_if (not (is_live world answered domain)) (NoDomain domain)) (fault_if (nat_le 256 (live_listeners answered)) TooManyListeners)

-- ---- domains that are unmounted

-- the outcome with the domain, if it is not live
abbrev pub unmounted_of : Bool → ℕ → Option Outcome
unmounted_of live domain = if live then None else Some (Unmounted domain)

-- ---- replies

-- how many receipts are pending
abbrev pub pending : List Answered → ℕ
pending answered = length (sents answered) - length (outcomes answered)

-- the reply to a submit: refused if 4,096 receipts are pending, or if the transaction is spent
abbrev pub submitted : List Answered → ℕ → Reply
submitted answered place =
    if nat_lt (pending answered) 4096
    then (if is_spent answered place then Refused TxSpent else Receipt (length (sents answered) + 1))
    else Refused PipelineFull

-- the reply to a settle, from the submission and the outcome of its receipt; no caller has a receipt without them
abbrev pub settled : Option Sent → Option Outcome → Reply
settled (Some s) (Some o) = Settled s.base.domain o
settled s o = Receipt 0

-- the reply to a pump, from the next receipt, its submission, and its outcome
abbrev pub pumped : ℕ → Option Sent → List Outcome → Reply
pumped receipt (Some s) (o ∷ os) = Decided receipt s.base.domain o
pumped receipt s os = Nothing

module _ (world : List Domain) where
  -- the newest trees of a domain
  abbrev pub trees_of : List Answered → ℕ → Store → List Row
  trees_of answered domain s = tree_after s (opening_of world domain s) (commits answered domain)

  -- the trees of a store of a domain at its commits, by their numbers
  abbrev pub trees_at : List Answered → ℕ → Store → ℕ → List Row
  trees_at answered domain s k = tree_at (opening_of world domain) (commits answered domain) s k

  -- the reply to a listen: the next listener, at the newest commit
  abbrev pub listening : List Answered → ℕ → Store → List Step → Reply
  listening answered domain s path =
      Listener (length (listeners answered) + 1) domain path (opened (trees_at answered domain s) path (length (commits answered domain)))

  -- the reply to a take of the listener: the changes of the commits after its version, up to the newest one. The last version of the
  -- schema says whether its path has its own row, so no upgrade changes that.
  abbrev pub batch_of : List Answered → ℕ → Listening → Reply
  batch_of answered id l =
      Batch l.domain (batch (has_own_row (last_of world l.domain) l.path) (trees_at answered l.domain l.store) l.path (version answered id) (length (commits answered l.domain)))

  -- a client may use only its own live listeners
  abbrev pub if_listens : List Answered → ℕ → ℕ → Reply → Reply
  if_listens answered client id good = if has_listener answered client id then good else Refused (NoListener id)

  abbrev pub taken : List Answered → ℕ → Reply
  taken answered id = option_map_or (batch_of answered id) (listener_at answered id) (Refused (NoListener id))

  -- The outcome of a submission, decided after these outcomes by these tables, with these live domains. If a smaller receipt of its chain
  -- was not done, that one is named; else if its domain is not live, that domain. Otherwise it is decided by the version rules
  -- of its domain, over the domain's commits; those after its base that are not of its chain are foreign.
  abbrev pub outcome : (ℕ → SchemaTable) → (ℕ → Bool) → List Sent → List Outcome → Sent → Outcome
  outcome tables live ss os s =
      unwrap_or (option_or (option_map FailedBy (failing s.base.chain ss os)) (unmounted_of (live s.base.domain) s.base.domain))
      (decide (tables s.base.domain) (opening_of world s.base.domain) (done_ops s.base.domain ss os) (rules_of world s.base.domain) s.base.trees
      (spans s.base.commit s.base.chain (done_chains s.base.domain ss os)) s.ops)

  -- the outcome of the first pending submission, after these outcomes
  abbrev pub decide_front : (ℕ → SchemaTable) → (ℕ → Bool) → List Sent → List Outcome → Option Sent → List Outcome
  decide_front tables live ss os None = []
  decide_front tables live ss os (Some s) = outcome tables live ss os s ∷ []

  -- the outcomes of the next n receipts, after these
  abbrev pub decide_next : (ℕ → SchemaTable) → (ℕ → Bool) → List Sent → List Outcome → ℕ → List Outcome
  decide_next tables live ss os zero = []
  decide_next tables live ss os (suc n) =
      decide_front tables live ss os (slice_get ss (length os)) ++ decide_next tables live ss (os ++ decide_front tables live ss os (slice_get ss (length os))) n

  -- the outcomes that a call decides, all by the present version: a settle those of the pending receipts up to its own, a
  -- pump that of the first pending one
  abbrev pub decided_by : List Answered → Call → List Outcome
  decided_by answered (Settle receipt) = decide_next (tables_now world answered) (is_live world answered) (sents answered) (outcomes answered) (receipt - length (outcomes answered))
  decided_by answered Pump = decide_next (tables_now world answered) (is_live world answered) (sents answered) (outcomes answered) 1
  decided_by answered call = []

  -- a base at the newest commit of a domain, in a chain or in none
  abbrev pub newest_base : List Answered → ℕ → Option ℕ → Base
  newest_base answered domain chain = record { domain = domain; commit = length (commits answered domain); chain = chain; trees = trees_of answered domain }

  -- a base that follows a pending submission: the same base commit, and the trees after the submission
  abbrev pub base_on : List Answered → ℕ → Option Sent → Base
  base_on answered chain None = newest_base answered (domain_of answered chain) (Some chain)
  base_on answered chain (Some s) = record { domain = s.base.domain; commit = s.base.commit; chain = Some chain; trees = view_of s }

  -- the base of the next transaction of a chain: it follows the chain's last submission while that is pending, else it is at the newest commit
  abbrev pub chained_base : List Answered → ℕ → Base
  chained_base answered chain = base_on answered chain (option_and_then (λ n. numbered (sents answered) n) (stands_on answered chain))

  -- the transaction that a call with this reply began
  abbrev pub began_by : List Answered → Call → Reply → Option Base
  began_by answered (Begin domain mode) (Begun commit on) = Some (newest_base answered domain None)
  began_by answered (ChainBegin chain mode) (Begun commit on) = Some (chained_base answered chain)
  began_by answered call reply = None

  -- Why an upgrade to the version is refused: it is not the next one, or a newest tree of domain 0 would break a rule of it.
  abbrev pub upgrade_refusal : List Answered → ℕ → Option CallFault
  upgrade_refusal answered version =
      option_or (fault_if (not (nat_eq (schema_version answered + 1) version)) (WrongVersion (schema_version answered)))
      (broken_by (table_of world version 0) (trees_of answered 0))

  -- the reply to a call of the client after these entries
  abbrev pub reply_to : List Answered → ℕ → Call → Reply
  reply_to answered client (Begin domain mode) = if is_live world answered domain then Begun (length (commits answered domain)) None else Refused (NoDomain domain)
  reply_to answered client (OpenChain domain) = if is_live world answered domain then Chain (length (chain_domains answered) + 1) else Refused (NoDomain domain)
  reply_to answered client (ChainBegin chain mode) = refused_or (chain_refusal world answered chain) (Begun (chained_base answered chain).commit (stands_on answered chain))
  reply_to answered client (CloseChain chain) = refused_or (fault_if (is_closed answered chain) ChainClosed) Accepted
  reply_to answered client (Submit place ops) = submitted answered place
  reply_to answered client (Cancel place) = Accepted
  reply_to answered client (Settle receipt) = settled (numbered (sents answered) receipt) (numbered (outcomes answered ++ decided_by answered (Settle receipt)) receipt)
  reply_to answered client Pump = pumped (length (outcomes answered) + 1) (slice_get (sents answered) (length (outcomes answered))) (decided_by answered Pump)
  reply_to answered client (Listen domain s path) = refused_or (listen_refusal world answered domain) (listening answered domain s path)
  reply_to answered client (Take id) = if_listens answered client id (taken answered id)
  reply_to answered client (Unlisten id) = if_listens answered client id Accepted
  reply_to answered client (Provide rpc context) = rpc_reply rpc (by_router answered client (rpcs.Provide rpc context))
  reply_to answered client (Withdraw rpc context) = rpc_reply rpc (by_router answered client (rpcs.Withdraw rpc context))
  reply_to answered client (Invoke rpc context input) = rpc_reply rpc (by_router answered client (rpcs.Invoke rpc context input))
  reply_to answered client NextCall = rpc_reply 0 (by_router answered client rpcs.NextCall)
  reply_to answered client (Answer id output) = rpc_reply 0 (by_router answered client (rpcs.Answer id output))
  reply_to answered client (Collect id) = rpc_reply (unwrap_or (rpc_of answered id) 0) (by_router answered client (rpcs.Collect id))
  reply_to answered client (Subscribe note) = by_notes answered client (notes.Subscribe note)
  reply_to answered client (Offer note rows) = by_notes answered client (notes.Offer note rows)
  reply_to answered client TakeNotes = by_notes answered client notes.TakeNotes
  reply_to answered client (Mount path device) = by_mounts (length world) answered (mount_calls.Mount path device)
  reply_to answered client (Unmount domain) = by_mounts (length world) answered (mount_calls.Unmount domain)
  reply_to answered client (MountAt path) = by_mounts (length world) answered (mount_calls.MountAt path)
  reply_to answered client (Mark mark) = Accepted
  reply_to answered client (After mark) = if is_marked answered mark then Found else Late
  reply_to answered client (Upgrade version) = refused_or (upgrade_refusal answered version) Accepted

  -- an entry after these, with its results
  abbrev pub answered_as : List Answered → Entry → Reply → Answered
  answered_as answered e reply =
      record { entry = e; reply = reply; began = began_by answered e.call reply; sent = sent_by answered e.call reply; decided = decided_by answered e.call }

  -- one more entry, with its results
  abbrev pub answer : List Answered → Entry → List Answered
  answer answered e = answered ++ answered_as answered e (reply_to answered e.client e.call) ∷ []

  -- the entries of a log, each with its results
  abbrev pub history : List Entry → List Answered
  history log = fold answer [] log

  -- the reply to an entry after a log
  abbrev pub reply : List Entry → Entry → Reply
  reply log e = reply_to (history log) e.client e.call

  -- the newest tree of a store of a domain
  abbrev pub newest_tree : List Entry → ℕ → Store → List Row
  newest_tree log domain s = trees_of (history log) domain s

  -- the tree of a store that the transaction that began at the index of the log sees before its own writes
  abbrev pub base_tree : List Entry → ℕ → Store → List Row
  base_tree log place s = (unwrap_or (began_at (history log) place) nowhere).trees s

  -- and after its own writes
  abbrev pub view : List Entry → ℕ → List Op → Store → List Row
  view log place ops s = apply_ops (base_tree log place s) s ops

-- how many entries of a log are the client's
abbrev pub entries_of : List Entry → ℕ → ℕ
entries_of log client = count_by (λ e. nat_eq e.client client) log
