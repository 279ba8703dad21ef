-- Worked examples of the router: clients and their calls.
use Rattle.std.specs.Prelude.{ℕ, Bool, List, [], ◌∷◌, map}
use Rattle.sal_types.specs.declared.value.Step.{Step}
use Rattle.sal_types.specs.declared.value.Step.TheVariants.{Node}
use Rattle.sal_types.specs.declared.value.Cell.TheVariants.{Mark}
use Rattle.sal_types.specs.declared.row.Row.{Row}
use Rattle.sal_rpc.specs.declared.call.RpcCall.{RpcCall}
use Rattle.sal_rpc.specs.declared.call.RpcReply.{RpcReply}
use Rattle.sal_rpc.specs.Routing.{Asked, gives, made_of, reply_to}

abbrev pub by : ℕ → RpcCall → Asked
by client call = record { client = client; call = call }

-- the path of a node
abbrev pub there : ℕ → List Step
there n = Node n ∷ []

-- rows that differ in their node
abbrev pub rows : ℕ → List Row
rows n = record { path = there n; cell = Mark } ∷ []

abbrev pub replies : List Asked → List RpcReply
replies calls = map (λ m. m.reply) (made_of calls)

-- whether the client's call would be given something after these
abbrev pub gets : List Asked → ℕ → RpcCall → Bool
gets calls client call = gives (reply_to (made_of calls) client call)
