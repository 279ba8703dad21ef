-- The shared calls that clients are ready to make, and their effects.
use Rattle.std.specs.Prelude.{◌≡◌, ◌⊎◌, ◌≤◌, ℕ, IsSome, List, length, Option, None, Some, Result, Ok, Err, true}
use Rattle.serde_json.specs.View.{view}
use Rattle.sal_rows.specs.declared.outcome.CallFault.{CallFault}
use Rattle.sal_rows.specs.declared.outcome.CallFault.TheVariants as fault
use Rattle.sal_history.specs.declared.call.Call.{Call}
use Rattle.sal_history.specs.declared.call.Call.TheVariants as made
use Rattle.sal_history.specs.declared.call.Entry.{Entry}
use Rattle.sal_schema.specs.declared.table.SchemaTable.{SchemaTable}
use Rattle.sal_pathtext.specs.Read.{read_path}
use Rattle.sal_script.specs.Moves as asked
use Rattle.sal_script.specs.Moves.{Move}
use Rattle.sal_script.specs.declared.reply.StepReply.{StepReply}
use Rattle.sal_script.specs.declared.reply.StepRefusal.TheVariants.{EmptySlot}
use Rattle.sal_script.specs.Play.{Client, local, meet, refused, replied}
use Rattle.sal_script.specs.Tables.{Versions, has_domain, has_upgrade, last_in}
use Rattle.sal_script.specs.Services as services
use Rattle.sal_hub.specs.Answers.{limit}
use Rattle.sal_hub.specs.HubHistory.{HubHistory, more}
use Rattle.sal_client.specs.declared.client.ClientState.{ClientState}
use Rattle.sal_client.specs.declared.client.Standing.TheVariants.{Empty, Writable}
use Rattle.sal_client.specs.declared.fault.StepFault.{StepFault}
use Rattle.sal_client.specs.declared.fault.StepFault.TheVariants.{Refused, NoMemory as Wanting}
use Rattle.sal_client.specs.declared.wish.RunFault.{RunFault}
use Rattle.sal_client.specs.declared.wish.RunFault.TheVariants.{HistoryFull, NoMemory}
use Rattle.sal_client.specs.declared.wish.Wish.{Wish}
use Rattle.sal_client.specs.declared.wish.Wish.TheVariants.{Begin, Submit, Cancel, Settle, OpenChain, ChainBegin, CloseChain, Pump, Listen, Take, Unlisten, Rpc, Note, Mount, Mark, After, Upgrade}
use Rattle.sal_client.specs.declared.mounts.MountWish.{MountWish}
use Rattle.sal_client.specs.declared.mounts.MountWish.TheVariants as mounts
use Rattle.sal_client.specs.declared.notes.NoteWish.{NoteWish}
use Rattle.sal_client.specs.declared.notes.NoteWish.TheVariants as notes
use Rattle.sal_client.specs.declared.rpcs.RpcWish.{RpcWish}
use Rattle.sal_client.specs.declared.rpcs.RpcWish.TheVariants as rpcs
use Rattle.sal_client.specs.Asked.{invocation_of}
use Rattle.sal_client.specs.Clients.{Calls, Everywhere, client_of, opened, standing_of}
use Rattle.sal_client.specs.Slots.{held}

-- ---- calls on services

abbrev pub rpc_move : RpcWish → Move
rpc_move (rpcs.Provide service) = asked.Provide service.name.value service.text.value
rpc_move (rpcs.Withdraw service) = asked.Withdraw service.name.value service.text.value
rpc_move (rpcs.Invoke slot ask) = asked.Invoke slot ask.service.name.value ask.service.text.value (view ask.value.value)
rpc_move (rpcs.NextCall slot) = asked.NextCall slot
rpc_move (rpcs.Answer slot answer) = asked.Answer slot (view answer.value.value)
rpc_move (rpcs.Collect slot) = asked.Collect slot

abbrev pub note_move : NoteWish → Move
note_move (notes.Subscribe name note) = asked.Subscribe name.value
note_move (notes.Offer name value note rows) = asked.Offer name.value (view value.value)
note_move notes.TakeNotes = asked.TakeNotes

abbrev pub mount_move : MountWish → Move
mount_move (mounts.Mount device text path) = asked.Mount device text.value
mount_move (mounts.Unmount domain) = asked.Unmount domain
mount_move (mounts.MountAt text path) = asked.MountAt text.value

-- the client's slots have what the call needs
abbrev pub CanRpc : RpcWish → ClientState → Type 0
CanRpc (rpcs.Answer slot answer) c = held c.handed slot ≡ Some answer.request
CanRpc (rpcs.Collect slot) c = IsSome (held c.invoked slot)
CanRpc wish c = Unit {0}

-- the arguments of the call were read by this schema
abbrev pub RpcReadBy : SchemaTable → RpcWish → Type 0
RpcReadBy table (rpcs.Provide s) = services.provide table s.name.value s.text.value ≡ Ok (made.Provide s.rpc s.context)
RpcReadBy table (rpcs.Withdraw s) = services.withdraw table s.name.value s.text.value ≡ Ok (made.Withdraw s.rpc s.context)
RpcReadBy table (rpcs.Invoke slot a) = services.invoke table a.service.name.value a.service.text.value (view a.value.value) ≡ Ok (made.Invoke a.service.rpc a.service.context a.input)
RpcReadBy table (rpcs.Answer slot a) = services.answer table (Some (invocation_of a.request)) (view a.value.value) ≡ Ok (made.Answer a.request.id a.output)
RpcReadBy table wish = Unit {0}

abbrev pub NoteReadBy : SchemaTable → NoteWish → Type 0
NoteReadBy table (notes.Subscribe name note) = services.subscribe table name.value ≡ Ok (made.Subscribe note)
NoteReadBy table (notes.Offer name value note rows) = services.offer table name.value (view value.value) ≡ Ok (made.Offer note rows)
NoteReadBy table notes.TakeNotes = Unit {0}

abbrev pub MountReadBy : SchemaTable → MountWish → Type 0
MountReadBy table (mounts.Mount device text path) = services.mount table device text.value ≡ Ok (made.Mount path device)
MountReadBy table (mounts.Unmount domain) = Unit {0}
MountReadBy table (mounts.MountAt text path) = services.mount_at table text.value ≡ Ok (made.MountAt path)

-- ---- calls

-- the step of the call
abbrev pub move_by : Wish → Move
move_by (Begin slot domain mode) = asked.Begin slot domain mode
move_by (Submit slot) = asked.Submit slot
move_by (Cancel slot) = asked.Cancel slot
move_by (Settle slot) = asked.Settle slot
move_by (OpenChain chain domain) = asked.OpenChain chain domain
move_by (ChainBegin chain slot mode) = asked.ChainBegin chain slot mode
move_by (CloseChain chain) = asked.CloseChain chain
move_by Pump = asked.Pump
move_by (Listen slot target) = asked.Listen slot target.domain target.store target.text.value
move_by (Take slot) = asked.Take slot
move_by (Unlisten slot) = asked.Unlisten slot
move_by (Rpc wish) = rpc_move wish
move_by (Note wish) = note_move wish
move_by (Mount wish) = mount_move wish
move_by (Mark mark) = asked.Mark mark
move_by (After mark) = asked.After mark
move_by (Upgrade version) = asked.Upgrade version

-- the client's slots have what the call needs
abbrev pub CanMake : Wish → ClientState → Type 0
CanMake (Submit slot) c = standing_of (opened c slot) ≡ Writable
CanMake (Cancel slot) c = standing_of (opened c slot) ≡ Empty → ⊥
CanMake (Settle slot) c = IsSome (held c.receipts slot)
CanMake (ChainBegin chain slot mode) c = IsSome (held c.chains chain)
CanMake (CloseChain chain) c = IsSome (held c.chains chain)
CanMake (Take slot) c = IsSome (held c.listeners slot)
CanMake (Unlisten slot) c = IsSome (held c.listeners slot)
CanMake (Rpc wish) c = CanRpc wish c
CanMake wish c = Unit {0}

-- the arguments of the call were read by these versions: for a listen, over a domain that the script has, by the last one of the domain,
-- and else by that of domain 0; an upgrade leads to one of them
abbrev pub ReadBy : List Versions → Wish → Type 0
ReadBy tables (Listen slot target) = (read_path (last_in tables target.domain) target.text.value ≡ Ok target.path) × (has_domain tables target.domain ≡ true)
ReadBy tables (Rpc wish) = RpcReadBy (last_in tables 0) wish
ReadBy tables (Note wish) = NoteReadBy (last_in tables 0) wish
ReadBy tables (Mount wish) = MountReadBy (last_in tables 0) wish
ReadBy tables (Upgrade version) = has_upgrade tables version ≡ true
ReadBy tables wish = Unit {0}

-- the wish, if the slot that it needs is filled
abbrev pub wish_if : {X : Type 0} → Wish → Option X → Result Wish StepFault
wish_if wish None = Err (Refused EmptySlot)
wish_if wish (Some x) = Ok wish

-- the wish with the arguments that were read
abbrev pub wished : {X : Type 0} → (X → Wish) → Result X StepFault → Result Wish StepFault
wished wish (Ok x) = Ok (wish x)
wished wish (Err why) = Err why

-- the step is refused over each log; `NoMemory` has no condition
abbrev pub IsRefused : List Versions → ClientState → Move → StepFault → Type 0
IsRefused tables c step (Refused refusal) = (known : HubHistory) → meet tables known.world known.log (client_of c) step ≡ refused refusal (client_of c)
IsRefused tables c step Wanting = Unit {0}

-- the step has this call, or is refused
abbrev pub Wants : List Versions → ClientState → Move → Result Wish StepFault → Type 0
Wants tables c step (Ok wish) = (step ≡ move_by wish) × CanMake wish c × ReadBy tables wish
Wants tables c step (Err why) = IsRefused tables c step why

-- The step was local, and the reply is among the client's replies; or the step has a call, and nothing has
-- changed.
abbrev pub Meets : List Versions → ClientState → Move → Option Wish → ClientState → Type 0
Meets tables old step None new = Everywhere tables old (λ known. (r : StepReply) × (between : Client) × (meet tables known.world known.log (client_of old) step ≡ local r between) × (client_of new ≡ replied r between))
Meets tables old step (Some wish) new = (step ≡ move_by wish) × CanMake wish new × ReadBy tables wish × (client_of new ≡ client_of old)

-- a shared call was made; the reply is not yet among the replies
abbrev pub Makes : List Versions → StepReply → ℕ → HubHistory → Client → Move → HubHistory → Client → Type 0
Makes tables r c known old step known' new = (call : Call) × Calls tables r c known old step known' new call

-- it was that of the wish, for any schemas by which this was read
abbrev pub MakesFor : Wish → ℕ → HubHistory → Client → HubHistory → Client → StepReply → Type 0
MakesFor wish c known old known' new r = (tables : List Versions) → ReadBy tables wish → Makes tables r c known old (move_by wish) known' new

-- one more entry, of client c
abbrev pub GrowsBy : ℕ → HubHistory → HubHistory → Type 0
GrowsBy c known known' = (e : Entry) × (e.client ≡ c) × (known' ≡ more known e)

-- at most one more entry, of client c
abbrev pub GrowsAtMost : ℕ → HubHistory → HubHistory → Type 0
GrowsAtMost c known known' = (known' ≡ known) ⊎ GrowsBy c known known'

-- the call was refused for a reason that stops the client
abbrev pub IsStop : CallFault → RunFault → Type 0
IsStop why HistoryFull = why ≡ fault.HistoryFull
IsStop why NoMemory = why ≡ fault.NoMemory

-- A client stopped at a call: the log is full and unchanged, or memory ran out, and then the log may have the call's entry.
abbrev pub Stops : ℕ → HubHistory → HubHistory → RunFault → Type 0
Stops c known known' HistoryFull = (limit ≤ length known.log) × (known' ≡ known)
Stops c known known' NoMemory = GrowsAtMost c known known'
