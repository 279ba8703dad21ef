-- The effect of a call: the routes of one call more and the reply by the definition, or, if memory ran out, no change.
use Rattle.std.specs.Prelude.{◌≡◌, ℕ, Bool, List, [], ◌∷◌, ◌++◌, Result, MatchResult}
use Rattle.sal_rpc.specs.declared.call.RpcCall.{RpcCall}
use Rattle.sal_rpc.specs.declared.call.RpcFault.{RpcFault}
use Rattle.sal_rpc.specs.declared.call.RpcFault.TheVariants.{NoProvider, ProviderTaken, NoCall, NoMemory}
use Rattle.sal_rpc.specs.declared.call.RpcReply.{RpcReply}
use Rattle.sal_rpc.specs.declared.call.RpcReply.TheVariants.{Refused}
use Rattle.sal_rpc.specs.Routes.{IsOf, Routes}
use Rattle.sal_rpc.specs.Routing.{Asked, gives, made_of, reply_to}

-- The client's call was made: for any earlier calls, the routes are those of one call more, and the reply is theirs.
pub record Makes (old new : Routes) (client : ℕ) (call : RpcCall) (reply : RpcReply) : Type 0 where
  pub longer : (calls : List Asked) → IsOf calls old → IsOf (calls ++ record { client = client; call = call } ∷ []) new
  pub answer : (calls : List Asked) → IsOf calls old → reply_to (made_of calls) client call ≡ reply

-- a refused call is one of the calls, and changes nothing else
pub record IsRefused (old new : Routes) (client : ℕ) (call : RpcCall) (fault : RpcFault) : Type 0 where
  pub made : Makes old new client call (Refused fault)
  pub same : new ≡ old

-- a fault of a call that takes no memory
abbrev pub Refuses : Routes → Routes → ℕ → RpcCall → RpcFault → Type 0
Refuses old new client call NoMemory = ⊥
Refuses old new client call (NoProvider rpc) = IsRefused old new client call (NoProvider rpc)
Refuses old new client call (ProviderTaken rpc) = IsRefused old new client call (ProviderTaken rpc)
Refuses old new client call (NoCall id) = IsRefused old new client call (NoCall id)

-- a fault of a call
abbrev pub Fails : Routes → Routes → ℕ → RpcCall → RpcFault → Type 0
Fails old new client call NoMemory = new ≡ old
Fails old new client call fault = Refuses old new client call fault

-- a call that returns its result, or a fault
abbrev pub Answers : {X : Type 0} → Routes → Routes → ℕ → RpcCall → (X → RpcReply) → Result X RpcFault → Type 0
Answers old new client call good result = MatchResult result (λ x. Makes old new client call (good x)) (Fails old new client call)

-- the same for a call that takes no memory
abbrev pub AnswersAlways : {X : Type 0} → Routes → Routes → ℕ → RpcCall → (X → RpcReply) → Result X RpcFault → Type 0
AnswersAlways old new client call good result = MatchResult result (λ x. Makes old new client call (good x)) (Refuses old new client call)

-- whether the client's call, made now, would be given something, for any earlier calls
abbrev pub Gives : Routes → ℕ → RpcCall → Bool → Type 0
Gives r client call b = (calls : List Asked) → IsOf calls r → b ≡ gives (reply_to (made_of calls) client call)
