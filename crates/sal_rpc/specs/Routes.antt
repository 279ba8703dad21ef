-- The routes of the calls on the router, by number.
use Rattle.std.specs.Prelude.{◌≡◌, ℕ, zero, suc, ◌<◌, Bool, true, false, not, ◌&&◌, List, [], ◌∷◌, Option, Some, None, length, map, nat_eq, slice_get, is_some}
use Rattle.std.specs.BTreeMap.{is_at}
use Rattle.std.specs.Map.{lookup}
use Rattle.std.specs.Option.{option_map_or, option_or, unwrap_or}
use Rattle.std.specs.Ordering.{nat_cmp}
use Rattle.std.specs.declared.cmp.Ordering.{Ordering}
use Rattle.sal_types.specs.declared.value.Step.{Step}
use Rattle.sal_types.specs.declared.row.Row.{Row}
use Rattle.sal_rpc.specs.declared.call.Request.{Request}
use Rattle.sal_rpc.specs.declared.call.RpcReply.{RpcReply}
use Rattle.sal_rpc.specs.declared.call.RpcReply.TheVariants.{Handed, Nothing}
use Rattle.sal_rpc.specs.declared.routes.Sent.{Sent}
use Rattle.sal_rpc.specs.declared.routes.Service.{Service}
use Rattle.sal_rpc.specs.contracts.routes.ServiceOrd.TheImpl as service_ord
use Rattle.sal_rpc.specs.Routing.{Asked, Made, Requested, answer_to, is_handed, made_of, provider, queue, requests}

-- The client that provides each service, the requests by their ids from 1 on, and those that wait for each client.
pub record Routes : Type 0 where
  pub providers : List (Service × ℕ)
  pub requests : List Sent
  pub queues : List (ℕ × List Request)

abbrev pub service_cmp : Service → Service → Ordering
service_cmp = (service_ord.ghosts).cmp

abbrev pub service : ℕ → Option (List Step) → Service
service rpc context = record { rpc = rpc; context = context }

abbrev pub provider_in : List (Service × ℕ) → Service → Option ℕ
provider_in providers s = lookup (is_at (service_cmp s)) providers

-- the client of the exact context, else the one without a context
abbrev pub owner_in : List (Service × ℕ) → Service → Option ℕ
owner_in providers s = option_or (provider_in providers s) (provider_in providers (service s.rpc None))

abbrev pub queue_in : List (ℕ × List Request) → ℕ → List Request
queue_in queues client = unwrap_or (lookup (is_at (nat_cmp client)) queues) []

-- the request with this id
abbrev pub sent_at : List Sent → ℕ → Option Sent
sent_at sent zero = None
sent_at sent (suc i) = slice_get sent i

-- the client took the request, and it is not answered
abbrev pub is_open : List Sent → ℕ → ℕ → Bool
is_open sent client id = option_map_or (λ (s : Sent). nat_eq s.owner client && (s.handed && not (is_some s.answer))) (sent_at sent id) false

-- the client made the request
abbrev pub is_by : List Sent → ℕ → ℕ → Bool
is_by sent client id = option_map_or (λ (s : Sent). nat_eq s.by client) (sent_at sent id) false

-- one request is replaced
abbrev pub written_at : (Sent → Sent) → List Sent → ℕ → List Sent
written_at f [] i = []
written_at f (s ∷ sent) zero = f s ∷ sent
written_at f (s ∷ sent) (suc i) = s ∷ written_at f sent i

-- the request with this id is replaced
abbrev pub sent_with : (Sent → Sent) → List Sent → ℕ → List Sent
sent_with f sent zero = sent
sent_with f sent (suc i) = written_at f sent i

abbrev pub hand : Sent → Sent
hand s = record s { handed = true }

abbrev pub answered : List Row → Sent → Sent
answered output s = record s { answer = Some output }

-- the next request, if one waits
abbrev pub next_reply : Option Request → RpcReply
next_reply None = Nothing
next_reply (Some request) = Handed request

-- the client of a request, and its provider
pub record Ends : Type 0 where
  pub by : ℕ
  pub owner : ℕ

abbrev pub ends_of : Requested → Ends
ends_of r = record { by = r.by; owner = r.owner }

abbrev pub ends_in : Sent → Ends
ends_in s = record { by = s.by; owner = s.owner }

abbrev pub request_of : ℕ × Requested → Request
request_of w = record { id = w.0; rpc = w.1.rpc; context = w.1.context; input = w.1.input }

-- the record of one request
pub record IsSent (made : List Made) (id : ℕ) (s : Sent) : Type 0 where
  pub handed : s.handed ≡ is_handed made id
  pub answer : s.answer ≡ answer_to made id

-- the routes are those of these calls
pub record IsKept (made : List Made) (r : Routes) : Type 0 where
  pub provided : (rpc : ℕ) (context : Option (List Step)) → provider_in r.providers (service rpc context) ≡ provider made rpc context
  pub ends : map ends_in r.requests ≡ map ends_of (requests made)
  pub sent : (i : ℕ) (s : Sent) → slice_get r.requests i ≡ Some s → IsSent made (suc i) s
  pub queued : (client : ℕ) → queue_in r.queues client ≡ map request_of (queue made client)
  pub unhanded : (id : ℕ) → length r.requests < id → is_handed made id ≡ false
  pub unanswered : (id : ℕ) → length r.requests < id → answer_to made id ≡ None

abbrev pub IsOf : List Asked → Routes → Type 0
IsOf calls r = IsKept (made_of calls) r
