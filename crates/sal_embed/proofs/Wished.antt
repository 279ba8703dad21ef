-- A wish that can be made is a shared call; so a client with such a wish is the one whose next step is the call.
use Rattle.std.proofs.Common.{◌≡◌, ℕ, Bool, true, false, List, [], ◌∷◌, Option, None, Some, Result, Ok, Err, if◌then◌else◌, refl, ap, sym, ◌∙◌}
use Rattle.std.specs.Prelude.{IsSome, option_map}
use Rattle.sal_types.specs.declared.value.Store.{Store}
use Rattle.sal_types.specs.declared.value.Step.{Step}
use Rattle.sal_pathtext.specs.declared.fault.PathTextFault.{PathTextFault}
use Rattle.sal_pathtext.specs.Read.{read_path}
use Rattle.serde_json.specs.View.{view}
use Rattle.sal_rows.specs.declared.outcome.Mode.{Mode}
use Rattle.sal_rows.specs.declared.outcome.Mode.TheVariants.{Ro, Wo, Rw, Checked}
use Rattle.sal_history.specs.declared.call.Call.{Call}
use Rattle.sal_history.specs.declared.call.Call.TheVariants as made
use Rattle.sal_history.specs.declared.call.Entry.{Entry}
use Rattle.sal_history.specs.World.{Domain}
use Rattle.sal_script.specs.Moves.{Move}
use Rattle.sal_script.specs.Play.{Arrival, Client, Meeting, Open, Opened, Run, arrive, arrive_by, ask, calls, cancel, chain_begin, close_chain, ended, listen_at, local, meet, refused, replied, settle, shared, submit, submit_in, take_batch, unlisten}
use Rattle.sal_script.specs.declared.reply.StepRefusal.TheVariants.{NoDevice, NoUpgrade}
use Rattle.sal_script.specs.Services.{Invocation, OrRefusal, answer, collect}
use Rattle.sal_script.specs.Tables.{Versions, has_domain, has_upgrade, last_in}
use Rattle.sal_hub.specs.declared.call_id.CallId.{CallId}
use Rattle.sal_hub.specs.declared.chain.Chain.{Chain}
use Rattle.sal_hub.specs.declared.receipt.Receipt.{Receipt}
use Rattle.sal_client.specs.declared.client.ClientState.{ClientState}
use Rattle.sal_client.specs.declared.client.Standing.TheVariants.{Empty, Writable}
use Rattle.sal_client.specs.declared.follower.Follower.{Follower}
use Rattle.sal_client.specs.declared.mounts.MountWish.{MountWish}
use Rattle.sal_client.specs.declared.mounts.MountWish.TheVariants as mounts
use Rattle.sal_client.specs.declared.notes.NoteWish.{NoteWish}
use Rattle.sal_client.specs.declared.notes.NoteWish.TheVariants as notes
use Rattle.sal_client.specs.declared.rpcs.RpcWish.{RpcWish}
use Rattle.sal_client.specs.declared.rpcs.RpcWish.TheVariants as rpcs
use Rattle.sal_client.specs.declared.wish.Wish.{Wish}
use Rattle.sal_client.specs.declared.wish.Wish.TheVariants.{Begin, Submit, Cancel, Settle, OpenChain, ChainBegin, CloseChain, Pump, Listen, Take, Unlisten, Rpc, Note, Mount, Mark, After, Upgrade}
use Rattle.sal_client.specs.Asked.{invocation_of}
use Rattle.sal_client.specs.Clients.{chain_of, client_of, number_of, opened, request_of, standing_in, standing_of}
use Rattle.sal_client.specs.Followers.{listener_of}
use Rattle.sal_client.specs.Slots.{held}
use Rattle.sal_client.specs.Wishes.{CanMake, CanRpc, MountReadBy, NoteReadBy, ReadBy, RpcReadBy, mount_move, move_by, note_move, rpc_move}

abbrev IsShared : Meeting → Type 0
IsShared m = (call : Call) × (m ≡ shared call)

-- ---- values in the slots

submit_mode : (tx : Open) (mode : Mode) (client : Client) → standing_in mode ≡ Writable → IsShared (submit_in tx mode client)
submit_mode tx Ro client is = cc
submit_mode tx Wo client is = (made.Submit tx.place tx.ops, refl)
submit_mode tx Rw client is = (made.Submit tx.place tx.ops, refl)
submit_mode tx Checked client is = (made.Submit tx.place tx.ops, refl)

submit_is : (client : Client) (tx : Option Open) → standing_of tx ≡ Writable → IsShared (submit client tx)
submit_is client None is = cc
submit_is client (Some tx) is = submit_mode tx tx.mode client is

module _ (client : Client) where
  cancel_is : (tx : Option Open) → (standing_of tx ≡ Empty → ⊥) → IsShared (cancel client tx)
  cancel_is None is = absurd (is refl)
  cancel_is (Some tx) is = (made.Cancel tx.place, refl)

  settle_is : (receipt : Option Receipt) → IsSome receipt → IsShared (settle client (option_map number_of receipt))
  settle_is None is = cc
  settle_is (Some receipt) is = (made.Settle (number_of receipt), refl)

  chain_begin_is : (mode : Mode) (chain : Option Chain) → IsSome chain → IsShared (chain_begin mode client (option_map chain_of chain))
  chain_begin_is mode None is = cc
  chain_begin_is mode (Some chain) is = (made.ChainBegin (chain_of chain).id mode, refl)

  close_chain_is : (chain : Option Chain) → IsSome chain → IsShared (close_chain client (option_map chain_of chain))
  close_chain_is None is = cc
  close_chain_is (Some chain) is = (made.CloseChain (chain_of chain).id, refl)

  take_is : (f : Option Follower) → IsSome f → IsShared (take_batch client (option_map listener_of f))
  take_is None is = cc
  take_is (Some f) is = (made.Take (listener_of f).id, refl)

  unlisten_is : (f : Option Follower) → IsSome f → IsShared (unlisten client (option_map listener_of f))
  unlisten_is None is = cc
  unlisten_is (Some f) is = (made.Unlisten (listener_of f).id, refl)

  collect_is : (id : Option CallId) → IsSome id → IsShared (ask (collect (option_map request_of id)) client)
  collect_is None is = cc
  collect_is (Some id) is = (made.Collect (request_of id), refl)

  -- ---- values that were read

  asked_is : (found : OrRefusal Call) (call : Call) → found ≡ Ok call → IsShared (ask found client)
  asked_is found call is = (call, ap (λ (it : OrRefusal Call). ask it client) is)

  listen_is : (has : Bool) (domain : ℕ) (store : Store) (read : Result (List Step) PathTextFault) (path : List Step) → read ≡ Ok path → has ≡ true
      → IsShared (if has then listen_at domain store read client else refused NoDevice client)
  listen_is has domain store read path is there = (
    made.Listen domain store path,
    ap (λ (b : Bool). if b then listen_at domain store read client else refused NoDevice client) there ∙ ap (λ (p : Result (List Step) PathTextFault). listen_at domain store p client) is,
  )

  upgrade_is : (has : Bool) (version : ℕ) → has ≡ true → IsShared (if has then shared (made.Upgrade version) else refused NoUpgrade client)
  upgrade_is has version there = (made.Upgrade version, ap (λ (b : Bool). if b then shared (made.Upgrade version) else refused NoUpgrade client) there)

module _ (tables : List Versions) (world : List Domain) (log : List Entry) (c : ClientState) where
  abbrev meets : Move → Meeting
  meets step = meet tables world log (client_of c) step

  rpc_is : (wish : RpcWish) → CanRpc wish c → RpcReadBy (last_in tables 0) wish → IsShared (meets (rpc_move wish))
  rpc_is (rpcs.Provide s) can read = asked_is (client_of c) _ _ read
  rpc_is (rpcs.Withdraw s) can read = asked_is (client_of c) _ _ read
  rpc_is (rpcs.Invoke slot a) can read = asked_is (client_of c) _ _ read
  rpc_is (rpcs.NextCall slot) can read = (made.NextCall, refl)
  rpc_is (rpcs.Answer slot a) can read =
      asked_is (client_of c) _ _ (ap (λ (h : Option Invocation). answer (last_in tables 0) h (view a.value.value)) (ap (option_map invocation_of) can) ∙ read)
  rpc_is (rpcs.Collect slot) can read = collect_is (client_of c) (held c.invoked slot) can

  note_is : (wish : NoteWish) → NoteReadBy (last_in tables 0) wish → IsShared (meets (note_move wish))
  note_is (notes.Subscribe name note) read = asked_is (client_of c) _ _ read
  note_is (notes.Offer name value note rows) read = asked_is (client_of c) _ _ read
  note_is notes.TakeNotes read = (made.TakeNotes, refl)

  mount_is : (wish : MountWish) → MountReadBy (last_in tables 0) wish → IsShared (meets (mount_move wish))
  mount_is (mounts.Mount device text path) read = asked_is (client_of c) _ _ read
  mount_is (mounts.Unmount domain) read = (made.Unmount domain, refl)
  mount_is (mounts.MountAt text path) read = asked_is (client_of c) _ _ read

  pub wish_is : (wish : Wish) → CanMake wish c → ReadBy tables wish → IsShared (meets (move_by wish))
  wish_is (Begin slot domain mode) can read = (made.Begin domain mode, refl)
  wish_is (Submit slot) can read = submit_is (client_of c) (opened c slot) can
  wish_is (Cancel slot) can read = cancel_is (client_of c) (opened c slot) can
  wish_is (Settle slot) can read = settle_is (client_of c) (held c.receipts slot) can
  wish_is (OpenChain chain domain) can read = (made.OpenChain domain, refl)
  wish_is (ChainBegin chain slot mode) can read = chain_begin_is (client_of c) mode (held c.chains chain) can
  wish_is (CloseChain chain) can read = close_chain_is (client_of c) (held c.chains chain) can
  wish_is Pump can read = (made.Pump, refl)
  wish_is (Listen slot target) can read =
      listen_is (client_of c) (has_domain tables target.domain) target.domain target.store (read_path (last_in tables target.domain) target.text.value) target.path read.0 read.1
  wish_is (Take slot) can read = take_is (client_of c) (held c.listeners slot) can
  wish_is (Unlisten slot) can read = unlisten_is (client_of c) (held c.listeners slot) can
  wish_is (Rpc wish) can read = rpc_is wish can read
  wish_is (Note wish) can read = note_is wish read
  wish_is (Mount wish) can read = mount_is wish read
  wish_is (Mark mark) can read = (made.Mark mark, refl)
  wish_is (After mark) can read = (made.After mark, refl)
  wish_is (Upgrade version) can read = upgrade_is (client_of c) (has_upgrade tables version) version read

-- ---- the client before its call

abbrev before_call : Client → Arrival → Client
before_call other (ended client) = other
before_call other (calls call step run) = run.client

module _ (tables : List Versions) (world : List Domain) (log : List Entry) (old mid : ClientState) (step : Move) (wish : Wish) (rest : List Move) where
  -- the place of the client after one step with this result
  abbrev arrived : ClientState → Move → List Move → Meeting → Arrival
  arrived c s steps m = arrive_by (λ next. arrive tables world log next steps) (λ call. calls call s (record { client = client_of c; steps = steps })) m

  -- a client that has the wish after a step is the same client
  pub asks_as_before : CanMake wish mid → ReadBy tables wish → arrive tables world log (client_of old) (step ∷ []) ≡ arrive tables world log (client_of mid) (move_by wish ∷ rest) → client_of mid ≡ client_of old
  asks_as_before can read same = by (meet tables world log (client_of old) step) (same ∙ ap (arrived mid (move_by wish) rest) asks.1)
    where
      asks : (call : Call) × (meet tables world log (client_of mid) (move_by wish) ≡ shared call)
      asks = wish_is tables world log mid wish can read

      by : (m : Meeting) → arrived old step [] m ≡ calls asks.0 (move_by wish) (record { client = client_of mid; steps = rest }) → client_of mid ≡ client_of old
      by (local r next) is = cc
      by (shared call) is = sym (ap (before_call (client_of old)) is)
