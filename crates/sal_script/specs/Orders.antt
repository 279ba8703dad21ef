-- Legal orders: the log of the played script is in that order, and has the shared calls of each client, each once
-- and in the client's own order.
use Rattle.std.specs.Prelude.{◌≡◌, ℕ, ◌<◌, ◌≤◌, List, [], ◌∷◌, ◌++◌, length, map, take, Option, None, Some, Ok, Err, if◌then◌else◌, nat_eq, slice_get, flat_map, ◌⊎◌}
use Rattle.sal_types.specs.declared.value.Store.{Store}
use Rattle.sal_rows.specs.declared.outcome.Mode.{Mode}
use Rattle.sal_history.specs.declared.call.Call.{Call}
use Rattle.sal_history.specs.declared.call.Call.TheVariants as made
use Rattle.sal_history.specs.declared.call.Entry.{Entry}
use Rattle.sal_history.specs.declared.reply.Reply.{Reply}
use Rattle.sal_history.specs.World.{Domain}
use Rattle.sal_history.specs.History.{Answered, entries_of, history}
use Rattle.sal_script.specs.declared.reply.StepReply.{StepReply}
use Rattle.sal_script.specs.declared.reply.StepReply.TheVariants.{Called}
use Rattle.sal_script.specs.Moves as asked
use Rattle.sal_script.specs.Moves.{Move}
use Rattle.sal_script.specs.Play.{IsLegal, Played, play}

-- the kind of a shared call, as far as its step determines it
pub data Kind : Type 0 where
  begins : ℕ → Mode → Kind
  submits : Kind
  cancels : Kind
  settles : Kind
  opens_chain : ℕ → Kind
  begins_next : Mode → Kind
  closes_chain : Kind
  pumps : Kind
  listens : ℕ → Store → Kind
  takes : Kind
  unlistens : Kind
  provides : Kind
  withdraws : Kind
  invokes : Kind
  takes_request : Kind
  answers : Kind
  collects : Kind
  subscribes : Kind
  offers : Kind
  takes_notes : Kind
  mounts : ℕ → Kind
  unmounts : ℕ → Kind
  asks_mount : Kind
  leaves_mark : ℕ → Kind
  looks_after : ℕ → Kind
  upgrades : ℕ → Kind

-- the kind of call that a step can make; none if the step is always local
abbrev pub kind_of_step : Move → Option Kind
kind_of_step (asked.Begin slot domain mode) = Some (begins domain mode)
kind_of_step (asked.Submit slot) = Some submits
kind_of_step (asked.Cancel slot) = Some cancels
kind_of_step (asked.Settle slot) = Some settles
kind_of_step (asked.OpenChain chain domain) = Some (opens_chain domain)
kind_of_step (asked.ChainBegin chain slot mode) = Some (begins_next mode)
kind_of_step (asked.CloseChain chain) = Some closes_chain
kind_of_step asked.Pump = Some pumps
kind_of_step (asked.Listen listener domain store path) = Some (listens domain store)
kind_of_step (asked.Take listener) = Some takes
kind_of_step (asked.Unlisten listener) = Some unlistens
kind_of_step (asked.Provide name context) = Some provides
kind_of_step (asked.Withdraw name context) = Some withdraws
kind_of_step (asked.Invoke slot name context value) = Some invokes
kind_of_step (asked.NextCall slot) = Some takes_request
kind_of_step (asked.Answer slot value) = Some answers
kind_of_step (asked.Collect slot) = Some collects
kind_of_step (asked.Subscribe name) = Some subscribes
kind_of_step (asked.Offer name value) = Some offers
kind_of_step asked.TakeNotes = Some takes_notes
kind_of_step (asked.Mount device path) = Some (mounts device)
kind_of_step (asked.Unmount domain) = Some (unmounts domain)
kind_of_step (asked.MountAt path) = Some asks_mount
kind_of_step (asked.Mark mark) = Some (leaves_mark mark)
kind_of_step (asked.After mark) = Some (looks_after mark)
kind_of_step (asked.Upgrade version) = Some (upgrades version)
kind_of_step step = None

abbrev pub kind_of_call : Call → Kind
kind_of_call (made.Begin domain mode) = begins domain mode
kind_of_call (made.Submit place ops) = submits
kind_of_call (made.Cancel place) = cancels
kind_of_call (made.Settle receipt) = settles
kind_of_call (made.OpenChain domain) = opens_chain domain
kind_of_call (made.ChainBegin chain mode) = begins_next mode
kind_of_call (made.CloseChain chain) = closes_chain
kind_of_call made.Pump = pumps
kind_of_call (made.Listen domain store path) = listens domain store
kind_of_call (made.Take id) = takes
kind_of_call (made.Unlisten id) = unlistens
kind_of_call (made.Provide rpc context) = provides
kind_of_call (made.Withdraw rpc context) = withdraws
kind_of_call (made.Invoke rpc context input) = invokes
kind_of_call made.NextCall = takes_request
kind_of_call (made.Answer id output) = answers
kind_of_call (made.Collect id) = collects
kind_of_call (made.Subscribe note) = subscribes
kind_of_call (made.Offer note rows) = offers
kind_of_call made.TakeNotes = takes_notes
kind_of_call (made.Mount path device) = mounts device
kind_of_call (made.Unmount domain) = unmounts domain
kind_of_call (made.MountAt path) = asks_mount
kind_of_call (made.Mark mark) = leaves_mark mark
kind_of_call (made.After mark) = looks_after mark
kind_of_call (made.Upgrade version) = upgrades version

-- a shared call and its reply
pub record Exchange : Type 0 where
  pub kind : Option Kind
  pub reply : Reply

-- a step with a shared call
abbrev pub exchange_at : Move → StepReply → List Exchange
exchange_at step (Called r) = record { kind = kind_of_step step; reply = r } ∷ []
exchange_at step r = []

-- the shared calls among a client's steps, by the replies to them
abbrev pub exchanges_of : List Move → List StepReply → List Exchange
exchanges_of [] rs = []
exchanges_of (step ∷ steps) [] = []
exchanges_of (step ∷ steps) (r ∷ rs) = exchange_at step r ++ exchanges_of steps rs

-- the entries of a client, each with its reply by the log
abbrev pub exchange_by : ℕ → Answered → List Exchange
exchange_by client a = if nat_eq a.entry.client client then record { kind = Some (kind_of_call a.entry.call); reply = a.reply } ∷ [] else []

abbrev pub exchanges_in : List Domain → List Entry → ℕ → List Exchange
exchanges_in world log client = flat_map (exchange_by client) (history world log)

-- each entry is numbered by its client's earlier ones
abbrev pub IsNumbered : List Entry → Type 0
IsNumbered log = (i : ℕ) (e : Entry) → slice_get log i ≡ Some e → e.number ≡ entries_of (take i log) e.client

-- Each step of the client has one reply, and its shared calls are its entries in the log, in order: of the same kind, and
-- with the replies by the log.
pub record IsAnswered (world : List Domain) (log : List Entry) (client : ℕ) (steps : List Move) (replies : List StepReply) : Type 0 where
  pub answered : length replies ≡ length steps
  pub called : exchanges_of steps replies ≡ exchanges_in world log client

-- a played script and the order in which it was played
pub record Follows (world : List Domain) (clients : List (List Move)) (order : List ℕ) (played : Played) : Type 0 where
  pub ordered : map (λ (e : Entry). e.client) played.log ≡ order
  pub known : (i client : ℕ) → slice_get order i ≡ Some client → client < length clients
  pub numbered : IsNumbered played.log
  pub all : length played.replies ≡ length clients
  pub each : (client : ℕ) (steps : List Move) (replies : List StepReply) → slice_get clients client ≡ Some steps → slice_get played.replies client ≡ Some replies → IsAnswered world played.log client steps replies

-- a play follows its order
abbrev pub PlaysFollow : Type 0
PlaysFollow = (world : List Domain) (clients : List (List Move)) (order : List ℕ) (played : Played) → play world clients order ≡ Ok played → Follows world clients order played

-- an order is legal, or fails at one of its numbers or at its end
abbrev pub OrdersEndOrFail : Type 0
OrdersEndOrFail =
    (world : List Domain) (clients : List (List Move)) (order : List ℕ)
    → (IsLegal world clients order × ((played : Played) × (play world clients order ≡ Ok played)))
    ⊎ ((IsLegal world clients order → ⊥) × ((index : ℕ) × (play world clients order ≡ Err index) × (index ≤ length order)))
