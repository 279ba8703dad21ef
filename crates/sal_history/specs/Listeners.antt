-- The listeners of a log (`DOMDataTreeChangeListener` of the MD-SAL developer guide), by their ids from 1 on: the client, the store and
-- the path of each, which of them are live, and the version of each.
use Rattle.std.specs.Prelude.{ℕ, Bool, true, false, not, ◌-◌, ◌&&◌, List, length, Option, Some, None, if◌then◌else◌, nat_eq, unwrap_or, count_by}
use Rattle.std.specs.List.{filter_map, fold, list_any}
use Rattle.std.specs.Option.{option_map_or}
use Rattle.sal_types.specs.declared.value.Store.{Store}
use Rattle.sal_types.specs.declared.value.Step.{Step}
use Rattle.sal_history.specs.declared.call.Call.{Call}
use Rattle.sal_history.specs.declared.call.Call.TheVariants.{Listen, Take, Unlisten}
use Rattle.sal_history.specs.declared.reply.Reply.{Reply}
use Rattle.sal_history.specs.declared.reply.Reply.TheVariants.{Accepted, Listener, Batch}
use Rattle.sal_history.specs.Answered.{Answered}
use Rattle.sal_history.specs.Numbered.{numbered}

-- a listener: its client, its store and its path
pub record Listening : Type 0 where
  pub client : ℕ
  pub domain : ℕ
  pub store : Store
  pub path : List Step

-- the listener that a call of the client with this reply made
abbrev pub listens : ℕ → Call → Reply → Option Listening
listens client (Listen domain store path) (Listener id at p opened) = Some (record { client = client; domain = domain; store = store; path = path })
listens client call reply = None

-- the listeners that were made
abbrev pub listeners : List Answered → List Listening
listeners answered = filter_map (λ a. listens a.entry.client a.entry.call a.reply) answered

abbrev pub listener_at : List Answered → ℕ → Option Listening
listener_at answered id = numbered (listeners answered) id

-- a call with this reply removed a listener
abbrev pub removes_one : Call → Reply → Bool
removes_one (Unlisten id) Accepted = true
removes_one call reply = false

-- and it was this one
abbrev pub removes : Call → Reply → ℕ → Bool
removes (Unlisten id) Accepted listener = nat_eq id listener
removes call reply listener = false

abbrev pub is_removed : List Answered → ℕ → Bool
is_removed answered id = list_any (λ a. removes a.entry.call a.reply id) answered

-- how many are live: those that were made, without those that were removed; none is removed twice
abbrev pub live_listeners : List Answered → ℕ
live_listeners answered = length (listeners answered) - count_by (λ a. removes_one a.entry.call a.reply) answered

-- the client has this listener, and it is live
abbrev pub has_listener : List Answered → ℕ → ℕ → Bool
has_listener answered client id = option_map_or (λ l. nat_eq l.client client && not (is_removed answered id)) (listener_at answered id) false

-- the version of the listener after a call with this reply: that of its opening, or the end of a batch
abbrev pub brings_to : Call → Reply → ℕ → Option ℕ
brings_to (Listen domain store path) (Listener n at p opened) id = if nat_eq n id then Some opened.version else None
brings_to (Take n) (Batch domain batch) id = if nat_eq n id then Some batch.to else None
brings_to call reply id = None

-- the version of the listener: the last one
abbrev pub version : List Answered → ℕ → ℕ
version answered id = fold (λ v a. unwrap_or (brings_to a.entry.call a.reply id) v) 0 answered
