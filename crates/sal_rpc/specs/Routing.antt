-- Where requests go, by the calls on the router (`DOMRpcService`, `DOMRpcProviderService` of the MD-SAL developer guide).
use Rattle.std.specs.Prelude.{ℕ, Bool, true, false, not, ◌+◌, ◌&&◌, List, [], ◌∷◌, ◌++◌, zero, suc, length, Option, Some, None, is_some, if◌then◌else◌, nat_eq, slice_get}
use Rattle.std.specs.List.{filter, filter_map, fold, list_any}
use Rattle.std.specs.Option.{option_map_or, option_or}
use Rattle.sal_types.specs.declared.value.Step.{Step}
use Rattle.sal_types.specs.declared.row.Row.{Row}
use Rattle.sal_types.specs.Order.{path_eq}
use Rattle.sal_rpc.specs.declared.call.RpcCall.{RpcCall}
use Rattle.sal_rpc.specs.declared.call.RpcCall.TheVariants.{Provide, Withdraw, Invoke, NextCall, Answer, Collect}
use Rattle.sal_rpc.specs.declared.call.RpcFault.TheVariants.{NoProvider, ProviderTaken, NoCall}
use Rattle.sal_rpc.specs.declared.call.RpcReply.{RpcReply}
use Rattle.sal_rpc.specs.declared.call.RpcReply.TheVariants.{Accepted, CallMade, Handed, Output, Nothing, Refused}

-- a call of a client
pub record Asked : Type 0 where
  pub client : ℕ
  pub call : RpcCall

-- a call with its reply, and the client to which the request goes that it made
pub record Made : Type 0 where
  pub client : ℕ
  pub call : RpcCall
  pub reply : RpcReply
  pub owner : Option ℕ

-- ---- registrations

-- the provider of an RPC in a context
pub record Registration : Type 0 where
  pub client : ℕ
  pub rpc : ℕ
  pub context : Option (List Step)

abbrev pub same_context : Option (List Step) → Option (List Step) → Bool
same_context None None = true
same_context None (Some q) = false
same_context (Some p) None = false
same_context (Some p) (Some q) = path_eq p q

-- the registration is for this RPC and context
abbrev pub is_for : ℕ → Option (List Step) → Registration → Bool
is_for rpc context r = nat_eq r.rpc rpc && same_context r.context context

-- The registrations that are live after a call with this answer. One is live from a provide to a withdrawal of the same RPC and
-- context; only its own client can withdraw it.
abbrev pub live_after : List Registration → ℕ → RpcCall → RpcReply → List Registration
live_after live client (Provide rpc context) Accepted = live ++ record { client = client; rpc = rpc; context = context } ∷ []
live_after live client (Withdraw rpc context) Accepted = filter (λ r. not (is_for rpc context r)) live
live_after live client call reply = live

abbrev pub live : List Made → List Registration
live made = fold (λ rs m. live_after rs m.client m.call m.reply) [] made

-- the client that provides the RPC in exactly this context
abbrev pub provider : List Made → ℕ → Option (List Step) → Option ℕ
provider made rpc context = slice_get (filter_map (λ r. if is_for rpc context r then Some r.client else None) (live made)) 0

-- the client to which a request goes: that of the exact context, else the one without a context
abbrev pub owner_of : List Made → ℕ → Option (List Step) → Option ℕ
owner_of made rpc context = option_or (provider made rpc context) (provider made rpc None)

-- ---- requests, by their ids from 1 on

pub record Requested : Type 0 where
  pub by : ℕ
  pub owner : ℕ
  pub rpc : ℕ
  pub context : Option (List Step)
  pub input : List Row

abbrev pub requested : ℕ → Option ℕ → RpcCall → Option Requested
requested client (Some owner) (Invoke rpc context input) = Some (record { by = client; owner = owner; rpc = rpc; context = context; input = input })
requested client owner call = None

abbrev pub requests : List Made → List Requested
requests made = filter_map (λ m. requested m.client m.owner m.call) made

-- an answer that hands out the request
abbrev pub hands : RpcReply → ℕ → Bool
hands (Handed request) id = nat_eq request.id id
hands reply id = false

-- the request was handed out, which is only ever to its owner
abbrev pub is_handed : List Made → ℕ → Bool
is_handed made id = list_any (λ m. hands m.reply id) made

-- the rows with which a call with this answer answered the request
abbrev pub answers : RpcCall → RpcReply → ℕ → Option (List Row)
answers (Answer at output) Accepted id = if nat_eq at id then Some output else None
answers call reply id = None

-- the rows with which the request was answered, if it was
abbrev pub answer_to : List Made → ℕ → Option (List Row)
answer_to made id = slice_get (filter_map (λ m. answers m.call m.reply id) made) 0

-- counted from n on, the requests that pass the test, with their ids
abbrev pub waiting_from : ℕ → (ℕ → Requested → Bool) → List Requested → List (ℕ × Requested)
waiting_from n test [] = []
waiting_from n test (r ∷ rs) = (if test n r then (n, r) ∷ [] else []) ++ waiting_from (n + 1) test rs

-- the waiting requests of the client: those that go to it and were not taken, in order
abbrev pub queue : List Made → ℕ → List (ℕ × Requested)
queue made client = waiting_from 1 (λ id r. nat_eq r.owner client && not (is_handed made id)) (requests made)

-- the request with this id
abbrev pub request_at : List Requested → ℕ → Option Requested
request_at rs zero = None
request_at rs (suc i) = slice_get rs i

-- there is a request with this id, and it passes the test
abbrev pub is_request : List Made → ℕ → (Requested → Bool) → Bool
is_request made id test = option_map_or test (request_at (requests made) id) false

-- ---- replies

abbrev pub handed : Option (ℕ × Requested) → RpcReply
handed None = Nothing
handed (Some w) = Handed (record { id = w.0; rpc = w.1.rpc; context = w.1.context; input = w.1.input })

abbrev pub output : Option (List Row) → RpcReply
output None = Nothing
output (Some rows) = Output rows

-- the reply to a call of the client after these
abbrev pub reply_to : List Made → ℕ → RpcCall → RpcReply
reply_to made client (Provide rpc context) = if is_some (provider made rpc context) then Refused (ProviderTaken rpc) else Accepted
reply_to made client (Withdraw rpc context) = if option_map_or (λ c. nat_eq c client) (provider made rpc context) false then Accepted else Refused (NoProvider rpc)
reply_to made client (Invoke rpc context input) = if is_some (owner_of made rpc context) then CallMade (length (requests made) + 1) else Refused (NoProvider rpc)
reply_to made client NextCall = handed (slice_get (queue made client) 0)
reply_to made client (Answer id rows) =
    if is_request made id (λ r. nat_eq r.owner client) && is_handed made id && not (is_some (answer_to made id)) then Accepted else Refused (NoCall id)
reply_to made client (Collect id) = if is_request made id (λ r. nat_eq r.by client) then output (answer_to made id) else Refused (NoCall id)

-- the reply hands something over: a request, or the rows of an answer
abbrev pub gives : RpcReply → Bool
gives Accepted = false
gives (CallMade id) = false
gives (Handed request) = true
gives (Output rows) = true
gives Nothing = false
gives (Refused fault) = false

-- the client to which the request goes that a call makes
abbrev pub sent_to : List Made → RpcCall → Option ℕ
sent_to made (Invoke rpc context input) = owner_of made rpc context
sent_to made call = None

-- one call more, with its reply
abbrev pub make : List Made → Asked → List Made
make made a = made ++ record { client = a.client; call = a.call; reply = reply_to made a.client a.call; owner = sent_to made a.call } ∷ []

-- calls, each with its reply
abbrev pub made_of : List Asked → List Made
made_of calls = fold make [] calls
