-- The answer of a request never changes.
use Rattle.std.proofs.Common.{◌≡◌, ℕ, true, false, Bool, not, ◌&&◌, List, [], ◌∷◌, ◌++◌, Option, Some, None, refl, ap, sym, ◌∙◌, arith, if◌then◌else◌, nat_eq}
use Rattle.std.specs.Prelude.{is_some, slice_get}
use Rattle.std.specs.List.{filter_map}
use Rattle.std.specs.Option.{option_or}
use Rattle.std.proofs.lemmas.Bool.Decides.{nat_tests}
use Rattle.std.proofs.lemmas.List.Elements.{filter_map-append}
use Rattle.sal_types.specs.declared.row.Row.{Row}
use Rattle.sal_rpc.specs.declared.call.RpcCall.TheVariants.{Answer}
use Rattle.sal_rpc.specs.declared.call.RpcFault.TheVariants.{NoCall}
use Rattle.sal_rpc.specs.declared.call.RpcReply.TheVariants.{Accepted, Refused}
use Rattle.sal_rpc.specs.Laws.{AnsweredAsGiven, AnswersStay}
use Rattle.sal_rpc.specs.Routing.{Made, answer_to, answers, is_handed, is_request}
use Rattle.sal_rpc.proofs.Kept.{no-rows, third}
use Rattle.sal_rpc.proofs.Requested.{answer-more}

first-kept : (xs ys : List (List Row)) (rows : List Row) → slice_get xs 0 ≡ Some rows → slice_get (xs ++ ys) 0 ≡ Some rows
first-kept [] ys rows e = cc
first-kept (x ∷ xs) ys rows e = e

pub answers-stay : AnswersStay
answers-stay made more id rows e =
    let found : Made → Option (List Row) = λ m. answers m.call m.reply id in
    ap (λ (l : List (List Row)). slice_get l 0) (filter_map-append found made more) ∙ first-kept (filter_map found made) (filter_map found more) rows e

good : (b : Bool) (id : ℕ) → (if b then Accepted else Refused (NoCall id)) ≡ Accepted → b ≡ true
good true id e = refl
good false id e = cc

pub answered-as-given : AnsweredAsGiven
answered-as-given made client id rows e =
    let made_good = good (is_request made id (λ r. nat_eq r.owner client) && is_handed made id && not (is_some (answer_to made id))) id e in
    let none : answer_to made id ≡ None = no-rows (answer_to made id) (third (is_request made id (λ r. nat_eq r.owner client)) (is_handed made id) (is_some (answer_to made id)) made_good) in
    let own : nat_eq id id ≡ true = grind (arith, nat_tests) in
    let m : Made = record { client = client; call = Answer id rows; reply = Accepted; owner = None } in
    answer-more made m id ∙ (λ i. option_or (none i) (if own i then Some rows else None))
