-- A shared call and its reply as text: the call's word and its numbers. Paths, values and operations are not shown.
use Rattle.std.specs.Prelude.{ℕ, List, [], ◌++◌, Option, None, Some, codes, decimal}
use Rattle.sal_types.specs.declared.value.Store.{Store}
use Rattle.sal_types.specs.declared.value.Store.TheVariants.{Config, Oper}
use Rattle.sal_rows.specs.declared.outcome.CallFault.{CallFault}
use Rattle.sal_rows.specs.declared.outcome.CallFault.TheVariants as fault
use Rattle.sal_rows.specs.declared.outcome.Mode.{Mode}
use Rattle.sal_rows.specs.declared.outcome.Mode.TheVariants.{Ro, Wo, Rw, Checked}
use Rattle.sal_rows.specs.declared.outcome.Outcome.{Outcome}
use Rattle.sal_rows.specs.declared.outcome.Outcome.TheVariants as outcome
use Rattle.sal_history.specs.declared.call.Call.{Call}
use Rattle.sal_history.specs.declared.call.Call.TheVariants as call
use Rattle.sal_history.specs.declared.reply.Reply.{Reply}
use Rattle.sal_history.specs.declared.reply.Reply.TheVariants as reply

-- a word and a number
abbrev pub one : List ℕ → ℕ → List ℕ
one word n = word ++ decimal n

abbrev pub mode_text : Mode → List ℕ
mode_text Ro = codes " ro"
mode_text Wo = codes " wo"
mode_text Rw = codes " rw"
mode_text Checked = codes " checked"

abbrev pub store_text : Store → List ℕ
store_text Config = codes " config"
store_text Oper = codes " oper"

-- a call on data, mounts or marks: transactions by the index of the entry that began them, receipts, chains and listeners by their numbers
abbrev pub data_text : Call → List ℕ
data_text (call.Begin domain mode) = one (codes "begin ") domain ++ mode_text mode
data_text (call.OpenChain domain) = one (codes "open-chain ") domain
data_text (call.ChainBegin chain mode) = one (codes "chain-begin ") chain ++ mode_text mode
data_text (call.CloseChain chain) = one (codes "close-chain ") chain
data_text (call.Submit place ops) = one (codes "submit ") place
data_text (call.Cancel place) = one (codes "cancel ") place
data_text (call.Settle receipt) = one (codes "settle ") receipt
data_text call.Pump = codes "pump"
data_text (call.Listen domain store path) = one (codes "listen ") domain ++ store_text store
data_text (call.Take id) = one (codes "take ") id
data_text (call.Unlisten id) = one (codes "unlisten ") id
data_text (call.Mount path device) = one (codes "mount ") device
data_text (call.Unmount domain) = one (codes "unmount ") domain
data_text (call.MountAt path) = codes "mount-at"
data_text (call.Mark mark) = one (codes "mark ") mark
data_text (call.After mark) = one (codes "after ") mark
data_text (call.Upgrade version) = one (codes "upgrade ") version
data_text c = []

-- a call on RPCs or notifications, by the numbers of their nodes, and requests by theirs
abbrev pub service_text : Call → List ℕ
service_text (call.Provide rpc context) = one (codes "provide ") rpc
service_text (call.Withdraw rpc context) = one (codes "withdraw ") rpc
service_text (call.Invoke rpc context input) = one (codes "invoke ") rpc
service_text call.NextCall = codes "next-call"
service_text (call.Answer id output) = one (codes "answer ") id
service_text (call.Collect id) = one (codes "collect ") id
service_text (call.Subscribe note) = one (codes "subscribe ") note
service_text (call.Offer note rows) = one (codes "offer ") note
service_text call.TakeNotes = codes "take-notes"
service_text c = []

-- of these one is empty
abbrev pub call_text : Call → List ℕ
call_text c = data_text c ++ service_text c

abbrev pub outcome_text : Outcome → List ℕ
outcome_text (outcome.Done commit) = one (codes "commit ") commit
outcome_text (outcome.Conflict store path kind commit) = one (codes "conflict with commit ") commit
outcome_text (outcome.Invalid store path rule) = codes "breaks a rule"
outcome_text (outcome.ChainFailed receipt) = one (codes "chain failed by receipt ") receipt
outcome_text (outcome.Unmounted domain) = one (codes "unmounted domain ") domain

-- why a call was refused
abbrev pub fault_text : CallFault → List ℕ
fault_text fault.PipelineFull = codes "pipeline full"
fault_text fault.TxSpent = codes "transaction spent"
fault_text fault.PreviousOpen = codes "previous transaction open"
fault_text fault.ChainClosed = codes "chain closed"
fault_text (fault.ChainFailed receipt) = one (codes "chain failed by receipt ") receipt
fault_text (fault.NoDomain id) = one (codes "no live domain ") id
fault_text (fault.DeviceUsed id) = one (codes "mounted before: domain ") id
fault_text (fault.MountTaken id) = one (codes "mounted there: domain ") id
fault_text f = codes "refused"

abbrev pub base_text : ℕ → Option ℕ → List ℕ
base_text commit None = one (codes "on commit ") commit
base_text commit (Some receipt) = one (codes "on receipt ") receipt

abbrev pub mount_text : Option ℕ → List ℕ
mount_text None = codes "nothing"
mount_text (Some domain) = one (codes "domain ") domain

-- the first pending receipt, with its outcome
abbrev pub decided_text : ℕ → Outcome → List ℕ
decided_text receipt o = (one (codes "receipt ") receipt ++ codes ", ") ++ outcome_text o

-- a reply that is shown
abbrev pub answer_text : Reply → List ℕ
answer_text (reply.Begun commit on) = base_text commit on
answer_text (reply.Chain id) = one (codes "chain ") id
answer_text reply.Accepted = codes "ok"
answer_text (reply.Receipt number) = one (codes "receipt ") number
answer_text (reply.Settled domain o) = outcome_text o
answer_text (reply.Decided receipt domain o) = decided_text receipt o
answer_text (reply.MountAt mount) = mount_text mount
answer_text reply.Found = codes "found"
answer_text reply.Late = codes "late"
answer_text (reply.Refused f) = fault_text f
answer_text r = codes "nothing"
