-- Laws for any calls before.
use Rattle.std.specs.Prelude.{◌≡◌, ℕ, true, false, List, [], ◌∷◌, ◌++◌, Some, None, nat_eq}
use Rattle.sal_types.specs.declared.row.Row.{Row}
use Rattle.sal_rpc.specs.declared.call.Request.{Request}
use Rattle.sal_rpc.specs.declared.call.RpcCall.TheVariants.{Answer, NextCall}
use Rattle.sal_rpc.specs.declared.call.RpcReply.TheVariants.{Accepted, Handed}
use Rattle.sal_rpc.specs.Routing.{Made, answer_to, is_handed, is_request, reply_to}

-- a request that a client takes was taken by no client before
abbrev pub HandedOnce : Type 0
HandedOnce = (made : List Made) (client : ℕ) (request : Request) → reply_to made client NextCall ≡ Handed request → is_handed made request.id ≡ false

-- it is a request that goes to this client
abbrev pub HandedToItsOwner : Type 0
HandedToItsOwner = (made : List Made) (client : ℕ) (request : Request) → reply_to made client NextCall ≡ Handed request → is_request made request.id (λ r. nat_eq r.owner client) ≡ true

-- the rows of an answered request are those of the accepted answer
abbrev pub AnsweredAsGiven : Type 0
AnsweredAsGiven = (made : List Made) (client id : ℕ) (rows : List Row) → reply_to made client (Answer id rows) ≡ Accepted → answer_to (made ++ record { client = client; call = Answer id rows; reply = Accepted; owner = None } ∷ []) id ≡ Some rows

-- and it stays so, for any later calls
abbrev pub AnswersStay : Type 0
AnswersStay = (made more : List Made) (id : ℕ) (rows : List Row) → answer_to made id ≡ Some rows → answer_to (made ++ more) id ≡ Some rows
