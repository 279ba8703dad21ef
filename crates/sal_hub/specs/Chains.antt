-- The hub's records of chains are those of its log.
use Rattle.std.specs.Prelude.{◌≡◌, ℕ, ◌-◌, ◌<◌, ◌∷◌, ◌++◌, [], false, Bool, List, Option, None, Some, if◌then◌else◌, length, nat_lt, not, option_and_then, slice_get, vec_capacity, vec_len}
use Rattle.std.specs.Option.{option_map_or}
use Rattle.sal_rows.specs.declared.outcome.Mode.{Mode}
use Rattle.sal_tx.specs.declared.tx.Submission.{Submission}
use Rattle.sal_history.specs.declared.call.Call.{Call}
use Rattle.sal_history.specs.declared.call.Call.TheVariants.{Begin, ChainBegin}
use Rattle.sal_history.specs.History.{Answered, began_at, chain_domains, history, is_closed, last_begun, sents}
use Rattle.sal_history.specs.Numbered.{numbered}
use Rattle.sal_history.specs.Submissions.{Base, Sent, last_receipt}
use Rattle.sal_hub.specs.declared.chains.Chains.{Chains}
use Rattle.sal_hub.specs.declared.pipeline.Pipeline.{Pipeline}
use Rattle.sal_hub.specs.declared.start.Footing.{Footing}
use Rattle.sal_hub.specs.Failures.{flag_in, noted_in}
use Rattle.sal_hub.specs.Journals.{mark_at}
use Rattle.sal_hub.specs.HubHistory.{HubHistory}
use Rattle.sal_hub.specs.Starts.{IsNewest, IsOn}
use Rattle.sal_commit.specs.declared.domain.Domain.{Domain}

-- there is one of each list for each chain
pub record AreEven (chains : Chains) : Type 0 where
  pub closed : length chains.closed.items ≡ length chains.domains.items
  pub begun : length chains.begun.items ≡ length chains.domains.items
  pub sent : length chains.sent.items ≡ length chains.domains.items

-- if it has a chain, it is in the domain of that chain
abbrev pub IsInPlace : List Answered → Base → Type 0
IsInPlace answered base = (id : ℕ) → base.chain ≡ Some id → numbered (chain_domains answered) id ≡ Some base.domain

-- each transaction of a chain, begun or submitted, is in the domain of the chain
pub record AreInPlace (answered : List Answered) : Type 0 where
  pub begun : (place : ℕ) (base : Base) → began_at answered place ≡ Some base → IsInPlace answered base
  pub sent : (i : ℕ) (s : Sent) → slice_get (sents answered) i ≡ Some s → IsInPlace answered s.base

-- their domains, whether they are closed, and the last transaction that began and was submitted in each
pub record AreChains (known : HubHistory) (chains : Chains) : Type 0 where
  pub even : AreEven chains
  pub domains : chains.domains.items ≡ chain_domains (history known.world known.log)
  pub closed : (id : ℕ) → flag_in chains.closed.items id ≡ is_closed (history known.world known.log) id
  pub begun : (id : ℕ) → noted_in chains.begun.items id ≡ last_begun (history known.world known.log) id
  pub sent : (id : ℕ) → noted_in chains.sent.items id ≡ last_receipt (sents (history known.world known.log)) (Some id)
  pub places : AreInPlace (history known.world known.log)

-- the call that begins a transaction of a domain, or the next one of a chain
abbrev pub call_of : ℕ → Option ℕ → Mode → Call
call_of domain None mode = Begin domain mode
call_of domain (Some chain) mode = ChainBegin chain mode

-- ---- effects of calls

pub record AreSame (old new : Chains) : Type 0 where
  pub domains : new.domains.items ≡ old.domains.items
  pub closed : new.closed.items ≡ old.closed.items
  pub begun : new.begun.items ≡ old.begun.items
  pub sent : new.sent.items ≡ old.sent.items

-- there is room for one more chain
pub record AreRoomy (chains : Chains) : Type 0 where
  pub domains : vec_len chains.domains < vec_capacity chains.domains
  pub closed : vec_len chains.closed < vec_capacity chains.closed
  pub begun : vec_len chains.begun < vec_capacity chains.begun
  pub sent : vec_len chains.sent < vec_capacity chains.sent

-- one more chain, of the domain
pub record Adds (old : Chains) (domain : ℕ) (new : Chains) : Type 0 where
  pub domains : new.domains.items ≡ old.domains.items ++ domain ∷ []
  pub closed : new.closed.items ≡ old.closed.items ++ false ∷ []
  pub begun : new.begun.items ≡ old.begun.items ++ None ∷ []
  pub sent : new.sent.items ≡ old.sent.items ++ None ∷ []

-- the transaction that began at the index is open, if any did
abbrev pub is_open : List Bool → Option ℕ → Bool
is_open marks begun = option_map_or (λ place. not (mark_at marks place)) begun false

-- the receipt, unless it is decided
abbrev pub pending_of : ℕ → Option ℕ → Option ℕ
pending_of decided sent = option_and_then (λ n. if nat_lt decided n then Some n else None) sent

-- the start of the next transaction of a chain: it follows its pending submission, or is at the newest commit
abbrev pub IsFooting : Option ℕ → Pipeline → Domain → Footing → Type 0
IsFooting None p d footing = IsNewest d footing
IsFooting (Some n) p d footing = (sub : Submission) × (slice_get p.waiting.items (n - 1 - p.gone) ≡ Some sub) × IsOn sub n footing
