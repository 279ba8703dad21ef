-- A client in the definitions' form, and its invariants over the log.
use Rattle.std.specs.Prelude.{◌≡◌, ◌⊎◌, ◌<◌, ℕ, Bool, true, false, List, length, Option, None, Some}
use Rattle.std.specs.Option.{option_map, option_map_or}
use Rattle.sal_rows.specs.declared.outcome.Mode.{Mode}
use Rattle.sal_rows.specs.declared.outcome.Mode.TheVariants.{Ro, Wo, Rw, Checked}
use Rattle.sal_tx.specs.declared.tx.Tx.{Tx}
use Rattle.sal_history.specs.declared.call.Call.{Call}
use Rattle.sal_history.specs.History.{reply}
use Rattle.sal_script.specs.Moves.{Move, Put, Merge, Delete, Read, Exists, Mirror, Provide, Withdraw, Invoke, NextCall, Answer, Collect, Subscribe, Offer, TakeNotes, Mount, Unmount, MountAt}
use Rattle.sal_script.specs.declared.reply.StepReply.{StepReply}
use Rattle.sal_script.specs.declared.reply.StepReply.TheVariants.{Called}
use Rattle.sal_script.specs.Play.{Client, Listener, Open, Opened, keep, meet, shared, spot_after}
use Rattle.sal_script.specs.Tables.{Versions, table_at, versions_of}
use Rattle.sal_script.specs.Services.{Invocation}
use Rattle.sal_hub.specs.declared.call_id.CallId.{CallId}
use Rattle.sal_hub.specs.declared.chain.Chain.{Chain}
use Rattle.sal_hub.specs.declared.receipt.Receipt.{Receipt}
use Rattle.sal_hub.specs.HubHistory.{HubHistory, entry_of, more}
use Rattle.sal_hub.specs.Tokens.{IsCall, IsChain, IsGiven, IsToken, begun_of, mode_of, ops_of}
use Rattle.sal_client.specs.declared.client.ClientState.{ClientState}
use Rattle.sal_client.specs.declared.client.Standing.{Standing}
use Rattle.sal_client.specs.declared.follower.Follower.{Follower}
use Rattle.sal_client.specs.declared.client.Standing.TheVariants.{Empty, ReadOnly, Writable}
use Rattle.sal_client.specs.Asked.{invocation_of}
use Rattle.sal_client.specs.Followers.{Follows, IsOwnListener, listener_of}
use Rattle.sal_client.specs.Slots.{held}

-- a transaction in the definitions' form
abbrev pub open_of : Tx → Open
open_of tx = record { place = (begun_of tx).place; domain = (begun_of tx).domain; version = (begun_of tx).version; mode = mode_of tx; ops = ops_of tx }

-- the open transactions, by slot
abbrev pub opened : ClientState → ℕ → Option Open
opened c k = option_map open_of (held c.transactions k)

abbrev pub number_of : Receipt → ℕ
number_of receipt = receipt.number

-- the receipts, by slot
abbrev pub given : ClientState → ℕ → Option ℕ
given c k = option_map number_of (held c.receipts k)

-- a chain in the definitions' form
abbrev pub chain_of : Chain → Opened
chain_of chain = record { id = chain.id; domain = chain.domain }

-- the chains, by slot
abbrev pub chains_in : ClientState → ℕ → Option Opened
chains_in c k = option_map chain_of (held c.chains k)

-- the listeners, by slot
abbrev pub listeners_in : ClientState → ℕ → Option Listener
listeners_in c k = option_map listener_of (held c.listeners k)

abbrev pub request_of : CallId → ℕ
request_of id = id.number

-- the requests that it made, by slot
abbrev pub invoked_in : ClientState → ℕ → Option ℕ
invoked_in c k = option_map request_of (held c.invoked k)

-- those that it took, by slot
abbrev pub handed_in : ClientState → ℕ → Option Invocation
handed_in c k = option_map invocation_of (held c.handed k)

abbrev pub client_of : ClientState → Client
client_of c =
    record { transactions = opened c; receipts = given c; chains = chains_in c; listeners = listeners_in c; invoked = invoked_in c; handed = handed_in c; replies = c.replies.items }

-- what a slot can be used for
abbrev pub standing_in : Mode → Standing
standing_in Ro = ReadOnly
standing_in Wo = Writable
standing_in Rw = Writable
standing_in Checked = Writable

abbrev pub standing_of : Option Open → Standing
standing_of None = Empty
standing_of (Some tx) = standing_in tx.mode

-- the version by which a slot's transaction is read
abbrev pub version_of : Option Open → ℕ
version_of tx = option_map_or (λ (o : Open). o.version) tx 0

-- the domain of a slot's transaction
abbrev pub domain_of : Option Open → ℕ
domain_of tx = option_map_or (λ (o : Open). o.domain) tx 0

-- the controller's own domain, or one of `count`
abbrev pub IsWithin : ℕ → ℕ → Type 0
IsWithin count domain = (domain ≡ 0) ⊎ (domain < count)

-- a transaction that the log began, of one of its domains
pub record IsOwn (known : HubHistory) (tx : Tx) : Type 0 where
  pub token : IsToken known tx
  pub within : IsWithin (length known.world) (begun_of tx).domain

-- The conditions of the local steps, which each longer log keeps: each transaction is one that the log began, and each
-- listener's mirror has the rows that were committed there.
pub record IsSteady (known : HubHistory) (c : ClientState) : Type 0 where
  pub transactions : (k : ℕ) (tx : Tx) → held c.transactions k ≡ Some tx → IsOwn known tx
  pub followers : (k : ℕ) (f : Follower) → held c.listeners k ≡ Some f → Follows known f

-- And those of the shared steps: each receipt is one that the log gave, each chain one that it opened, each request one that
-- was made, and each listener one that it made for this client, at the version of its last batch; no listener is in two slots.
pub record IsSound (known : HubHistory) (c : ClientState) : Type 0 where
  pub steady : IsSteady known c
  pub receipts : (k : ℕ) (r : Receipt) → held c.receipts k ≡ Some r → IsGiven known r
  pub chains : (k : ℕ) (chain : Chain) → held c.chains k ≡ Some chain → IsChain known chain
  pub invoked : (k : ℕ) (id : CallId) → held c.invoked k ≡ Some id → IsCall known id
  pub listeners : (k : ℕ) (f : Follower) → held c.listeners k ≡ Some f → IsOwnListener known c.number f
  pub apart : (j k : ℕ) (f g : Follower) → held c.listeners j ≡ Some f → held c.listeners k ≡ Some g → f.id.number ≡ g.id.number → j ≡ k

-- it stays steady, and sound, for each log for which it was
pub record StaysSound (old new : ClientState) : Type 0 where
  pub steady : (known : HubHistory) → IsSteady known old → IsSteady known new
  pub sound : (known : HubHistory) → IsSound known old → IsSound known new

-- over each log for which the client is steady, if the domains' schemas have these versions
abbrev pub Everywhere : List Versions → ClientState → (HubHistory → Type 0) → Type 0
Everywhere tables c P = (known : HubHistory) → IsSteady known c → tables ≡ versions_of known.world → P known

-- the transaction is of one of the domains with these versions, and has that by which it began
pub record IsOfSchema (tables : List Versions) (tx : Tx) : Type 0 where
  pub within : IsWithin (length tables) (begun_of tx).domain
  pub schema : (begun_of tx).schema.value ≡ table_at tables (begun_of tx).version (begun_of tx).domain

-- so are all of the client
abbrev pub HasSchema : List Versions → ClientState → Type 0
HasSchema tables c = (k : ℕ) (tx : Tx) → held c.transactions k ≡ Some tx → IsOfSchema tables tx

-- only slots differ
pub record Same (old new : ClientState) : Type 0 where
  pub number : new.number ≡ old.number
  pub replies : new.replies.items ≡ old.replies.items

-- a local step: it uses only the client's transactions, or a listener's mirror
abbrev pub is_local : Move → Bool
is_local (Put slot store path value) = true
is_local (Merge slot store path value) = true
is_local (Delete slot store path) = true
is_local (Read slot store path) = true
is_local (Exists slot store path) = true
is_local (Mirror slot) = true
is_local step = false

-- a step for RPCs, notifications or mounts
abbrev pub is_service : Move → Bool
is_service (Provide name context) = true
is_service (Withdraw name context) = true
is_service (Invoke slot name context value) = true
is_service (NextCall slot) = true
is_service (Answer slot value) = true
is_service (Collect slot) = true
is_service (Subscribe name) = true
is_service (Offer name value) = true
is_service TakeNotes = true
is_service (Mount device path) = true
is_service (Unmount domain) = true
is_service (MountAt path) = true
is_service step = false

-- the effect of a shared call
pub record Calls (tables : List Versions) (r : StepReply) (c : ℕ) (known : HubHistory) (old : Client) (step : Move) (known' : HubHistory) (new : Client) (call : Call) : Type 0 where
  pub met : meet tables known.world known.log old step ≡ shared call
  pub entry : known' ≡ more known (entry_of known c call)
  pub replied : r ≡ Called (reply known.world known.log (entry_of known c call))
  pub kept : new ≡ keep (spot_after known.world known.log) step (reply known.world known.log (entry_of known c call)) old
