-- The hub's records of listeners are those of its log.
use Rattle.std.specs.Prelude.{◌≡◌, ℕ, ◌+◌, ◌-◌, ◌<◌, ◌≤◌, Bool, true, false, not, ◌&&◌, List, [], ◌∷◌, ◌++◌, Option, Some, length, map, set, count_by, nat_eq, nat_le, slice_get}
use Rattle.std.specs.Option.{option_map_or, option_or}
use Rattle.sal_types.specs.declared.value.Step.{Step}
use Rattle.sal_rows.specs.declared.batch.Batch.{Batch}
use Rattle.sal_rows.specs.declared.batch.Opened.{Opened}
use Rattle.sal_rows.specs.declared.outcome.CallFault.{CallFault}
use Rattle.sal_rows.specs.declared.outcome.CallFault.TheVariants.{NoDomain, TooManyListeners}
use Rattle.sal_rows.specs.Batches.{batch, opened}
use Rattle.sal_schema.specs.Fitting.{has_own_row}
use Rattle.sal_listen.specs.Given.{trees_of}
use Rattle.sal_commit.specs.declared.domain.Domain.{Domain}
use Rattle.sal_commit.specs.Versions.{last_in}
use Rattle.sal_history.specs.declared.call.Call.{Call}
use Rattle.sal_history.specs.declared.call.Call.TheVariants.{Listen}
use Rattle.sal_history.specs.declared.reply.Reply.{Reply}
use Rattle.sal_history.specs.declared.reply.Reply.TheVariants.{Listener as Made}
use Rattle.sal_history.specs.History.{commits, fault_if, history}
use Rattle.sal_history.specs.Listeners.{Listening, is_removed, listener_at, listeners, removes_one, version}
use Rattle.sal_hub.specs.declared.listener.Listener.{Listener}
use Rattle.sal_hub.specs.declared.listener.ListenerId.{ListenerId}
use Rattle.sal_hub.specs.declared.listener_calls.Ask.{Ask}
use Rattle.sal_hub.specs.declared.listeners.Listeners.{Listeners}
use Rattle.sal_hub.specs.HubHistory.{HubHistory}

-- in the log's form
abbrev pub listening_of : Listener → Listening
listening_of l = record { client = l.client; domain = l.domain; store = l.store; path = l.path }

-- whether the listener of this id is live, and its version, which is a commit of its domain
pub record IsListened (known : HubHistory) (id : ℕ) (l : Listener) : Type 0 where
  pub domain : l.domain < length known.world
  pub live : l.live ≡ not (is_removed (history known.world known.log) id)
  pub version : l.version ≡ version (history known.world known.log) id
  pub reached : l.version ≤ length (commits (history known.world known.log) l.domain)

-- how many are live
abbrev pub live_in : List Listener → ℕ
live_in ls = count_by (λ (l : Listener). l.live) ls

-- The listeners that were made, each with its record from the log, and how many are live: these and the removed ones
-- are all that were made. Only a listener that was made is removed.
pub record AreListeners (known : HubHistory) (ls : Listeners) : Type 0 where
  pub made : map listening_of ls.list.items ≡ listeners (history known.world known.log)
  pub each : (i : ℕ) (l : Listener) → slice_get ls.list.items i ≡ Some l → IsListened known (i + 1) l
  pub unmade : (id : ℕ) → length ls.list.items < id → is_removed (history known.world known.log) id ≡ false
  pub counted : ls.live ≡ live_in ls.list.items
  pub all : ls.live + count_by (λ a. removes_one a.entry.call a.reply) (history known.world known.log) ≡ length (listeners (history known.world known.log))

-- the reply to a listen at the path of the domain
abbrev pub listener_reply : ℕ → List Step → ListenerId × Opened → Reply
listener_reply domain path given = Made given.0.number domain path given.1

-- this is the listener with this number
abbrev pub IsMade : HubHistory → ListenerId → Listening → Type 0
IsMade known id l = listener_at (history known.world known.log) id.number ≡ Some l

-- ---- effects of calls

-- the record of a new one, at its opening
abbrev pub new_of : Ask → ℕ → Listener
new_of ask version = record { client = ask.client; domain = ask.domain; store = ask.store; path = ask.path.now; version = version; live = true }

-- its call
abbrev pub call_of : Ask → Call
call_of ask = Listen ask.domain ask.store ask.path.now

-- the rows there at the newest commit of the domain
abbrev pub opened_in : Domain → Ask → Opened
opened_in d ask = opened (trees_of d.commits.items ask.store) ask.path.now (length d.commits.items - 1)

-- the batch of the listener in the domain; the last version decides whether its path has its own row
abbrev pub batch_in : Domain → Listener → Batch
batch_in d l = batch (has_own_row (last_in d) l.path) (trees_of d.commits.items l.store) l.path l.version (length d.commits.items - 1)

-- the batch is this one for the listener at the index
abbrev pub IsBatchFor : List Domain → List Listener → ℕ → Batch → Type 0
IsBatchFor ds ls index b = (d : Domain) (l : Listener) → slice_get ls index ≡ Some l → slice_get ds l.domain ≡ Some d → b ≡ batch_in d l

-- why the domain, live or not, gets no further listener if this many are live
abbrev pub refusal_by : Bool → ℕ → ℕ → Option CallFault
refusal_by live domain count = option_or (fault_if (not live) (NoDomain domain)) (fault_if (nat_le 256 count) TooManyListeners)

-- the client has the listener at the index, and the listener is live
abbrev pub has_in : List Listener → ℕ → ℕ → Bool
has_in ls client index = option_map_or (λ (l : Listener). nat_eq l.client client && l.live) (slice_get ls index) false

pub record AreSame (old new : Listeners) : Type 0 where
  pub list : new.list.items ≡ old.list.items
  pub live : new.live ≡ old.live

-- one more
pub record Adds (old : Listeners) (l : Listener) (new : Listeners) : Type 0 where
  pub list : new.list.items ≡ old.list.items ++ l ∷ []
  pub live : new.live ≡ old.live + 1

-- the one at the index has taken up to this commit
pub record Tells (old : Listeners) (index : ℕ) (version : ℕ) (new : Listeners) : Type 0 where
  pub list : (l : Listener) → slice_get old.list.items index ≡ Some l → new.list.items ≡ set old.list.items index (record l { version = version })
  pub live : new.live ≡ old.live

-- the one at the index was removed
pub record Removes (old : Listeners) (index : ℕ) (new : Listeners) : Type 0 where
  pub list : (l : Listener) → slice_get old.list.items index ≡ Some l → new.list.items ≡ set old.list.items index (record l { live = false })
  pub live : new.live ≡ old.live - 1
