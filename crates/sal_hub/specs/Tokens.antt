-- The tokens that a hub has given: transactions, receipts, chains, listeners and requests.
use Rattle.std.specs.Prelude.{◌≡◌, ℕ, ◌-◌, ◌<◌, List, [], length, Option, Some, if◌then◌else◌, nat_eq, slice_get}
use Rattle.std.specs.Option.{option_map}
use Rattle.sal_types.specs.declared.value.Store.{Store}
use Rattle.sal_rows.specs.declared.op.Op.{Op}
use Rattle.sal_rows.specs.declared.outcome.Mode.{Mode}
use Rattle.sal_rows.specs.declared.outcome.Mode.TheVariants.{Ro}
use Rattle.sal_tree.specs.declared.commit.Pair.{Pair}
use Rattle.sal_tx.specs.declared.begun.Begun.{Begun}
use Rattle.sal_tx.specs.declared.tx.Tx.{Tx}
use Rattle.sal_tx.specs.declared.tx.Tx.TheVariants.{Read, Write}
use Rattle.sal_tx.specs.Views.{rows_in}
use Rattle.sal_history.specs.Versions.{version_at}
use Rattle.sal_history.specs.World.{table_of}
use Rattle.sal_history.specs.Listeners.{Listening, listener_at}
use Rattle.sal_history.specs.History.{began_at, chain_domains, history, sents}
use Rattle.sal_history.specs.Services.{rpc_of}
use Rattle.sal_history.specs.Submissions.{Sent}
use Rattle.sal_hub.specs.declared.call_id.CallId.{CallId}
use Rattle.sal_hub.specs.declared.chain.Chain.{Chain}
use Rattle.sal_hub.specs.declared.listener.ListenerId.{ListenerId}
use Rattle.sal_hub.specs.declared.receipt.Receipt.{Receipt}
use Rattle.sal_hub.specs.Begins.{mode_at, on_at}
use Rattle.sal_hub.specs.HubHistory.{HubHistory}

abbrev pub begun_of : Tx → Begun
begun_of (Read tx) = tx.begun
begun_of (Write tx) = tx.begun

abbrev pub base_of : Tx → Pair
base_of (Read tx) = tx.base
base_of (Write tx) = tx.base

abbrev pub mode_of : Tx → Mode
mode_of (Read tx) = Ro
mode_of (Write tx) = tx.mode

abbrev pub ops_of : Tx → List Op
ops_of (Read tx) = []
ops_of (Write tx) = tx.changes

-- The entry at its index began the transaction: its domain, the number of its base commit, its chain and the trees
-- of its base are those by the log, and its schema is the version that was present there. The entry has its mode, and its
-- reply names the pending receipt that it follows. So a token of one mode is none of another.
pub record IsBegun (known : HubHistory) (begun : Begun) (under : Mode) (trees : Pair) : Type 0 where
  pub before : begun.place < length known.log
  pub began : began_at (history known.world known.log) begun.place ≡ Some (record { domain = begun.domain; commit = begun.base_commit; chain = begun.chain; trees = rows_in trees })
  pub schema : begun.schema.value ≡ table_of known.world begun.version begun.domain
  pub version : begun.version ≡ (if nat_eq begun.domain 0 then version_at (history known.world known.log) begun.place else 0)
  pub mode : mode_at (history known.world known.log) begun.place ≡ Some under
  pub on : on_at (history known.world known.log) begun.place ≡ Some begun.on

-- two transactions that agree in everything that the log defines of a transaction
pub record AreAlike (a b : Begun) (under under' : Mode) (trees trees' : Pair) : Type 0 where
  pub mode : under ≡ under'
  pub on : a.on ≡ b.on
  pub domain : a.domain ≡ b.domain
  pub commit : a.base_commit ≡ b.base_commit
  pub chain : a.chain ≡ b.chain
  pub version : a.version ≡ b.version
  pub schema : a.schema.value ≡ b.schema.value
  pub rows : (s : Store) → rows_in trees s ≡ rows_in trees' s

abbrev pub IsToken : HubHistory → Tx → Type 0
IsToken known tx = IsBegun known (begun_of tx) (mode_of tx) (base_of tx)

-- the transaction that the entry after the log begins, in this domain, chain and mode, without operations
pub record IsFresh (known : HubHistory) (asked : ℕ) (member : Option ℕ) (under : Mode) (tx : Tx) : Type 0 where
  pub place : (begun_of tx).place ≡ length known.log
  pub domain : (begun_of tx).domain ≡ asked
  pub chain : (begun_of tx).chain ≡ member
  pub mode : mode_of tx ≡ under
  pub ops : ops_of tx ≡ []

-- the receipt was given, for a submission of its domain
abbrev pub IsGiven : HubHistory → Receipt → Type 0
IsGiven known receipt = (0 < receipt.number) × (option_map (λ (s : Sent). s.base.domain) (slice_get (sents (history known.world known.log)) (receipt.number - 1)) ≡ Some receipt.domain)

-- the chain was opened, over its domain
abbrev pub IsChain : HubHistory → Chain → Type 0
IsChain known chain = (0 < chain.id) × (slice_get (chain_domains (history known.world known.log)) (chain.id - 1) ≡ Some chain.domain)

-- the listener was made, over its domain
abbrev pub IsListener : HubHistory → ListenerId → Type 0
IsListener known id = (0 < id.number) × (option_map (λ (l : Listening). l.domain) (listener_at (history known.world known.log) id.number) ≡ Some id.domain)

-- the request was made, of its RPC
abbrev pub IsCall : HubHistory → CallId → Type 0
IsCall known id = (0 < id.number) × (rpc_of (history known.world known.log) id.number ≡ Some id.rpc)
