-- What each kind of step for services asks for.
use Rattle.std.proofs.Common.{Option, ap, refl, sym, subst}
use Rattle.std.specs.Option.{option_map}
use Rattle.serde_json.specs.View.{view}
use Rattle.sal_script.specs.Moves as asked
use Rattle.sal_script.specs.Moves.{move_of}
use Rattle.sal_script.specs.Play.{ask}
use Rattle.sal_script.specs.Services.{collect}
use Rattle.sal_script.specs.declared.script.ScriptStep.{ScriptStep}
use Rattle.sal_hub.specs.declared.call_id.CallId.{CallId}
use Rattle.sal_client.specs.declared.rpcs.RpcWish.TheVariants.{Collect}
use Rattle.sal_client.specs.declared.wish.Wish.TheVariants.{Rpc}
use Rattle.sal_client.specs.Clients.{client_of, request_of}
use Rattle.sal_client.specs.Slots.{held}
use Rattle.sal_client.specs.Wishes.{Wants}
use Rattle.sal_client.proofs.Wanted.{wants_if, wants_invoke, wants_provide, wants_withdraw}
use Rattle.sal_client.proofs.client.ClientState.service_wish.Goals as goal

pub returns-in-Provide : goal.returns-in-Provide
returns-in-Provide c =
    let tables = c.args.readers.now in
    let client = c.args.self.now in
    subst (λ (s : ScriptStep). Wants tables client (move_of s) c.provide_wish.result) (sym c.in-Provide.is)
    (wants_provide tables client c.own.result.now c.own.ensures c.provide_wish.result c.in-Provide.rpc c.in-Provide.context c.service_of.result c.service_of.ensures c.provide_wish.ensures)

pub returns-in-Withdraw : goal.returns-in-Withdraw
returns-in-Withdraw c =
    let tables = c.args.readers.now in
    let client = c.args.self.now in
    subst (λ (s : ScriptStep). Wants tables client (move_of s) c.withdraw_wish.result) (sym c.in-Withdraw.is)
    (wants_withdraw tables client c.own-in-Withdraw.result.now c.own-in-Withdraw.ensures c.withdraw_wish.result c.in-Withdraw.rpc c.in-Withdraw.context c.service_of-in-Withdraw.result c.service_of-in-Withdraw.ensures c.withdraw_wish.ensures)

pub returns-in-Invoke : goal.returns-in-Invoke
returns-in-Invoke c =
    let tables = c.args.readers.now in
    let client = c.args.self.now in
    subst (λ (s : ScriptStep). Wants tables client (move_of s) c.invoke_wish.result) (sym c.in-Invoke.is)
    (wants_invoke tables client c.own-in-Invoke.result.now c.own-in-Invoke.ensures c.invoke_wish.result c.in-Invoke.call c.in-Invoke.rpc c.in-Invoke.context (view c.in-Invoke.input) c.ask_by.result c.ask_by.ensures c.invoke_wish.ensures)

pub returns-in-Collect : goal.returns-in-Collect
returns-in-Collect c =
    let tables = c.args.readers.now in
    let client = c.args.self.now in
    let slot = c.in-Collect.call in
    subst (λ (s : ScriptStep). Wants tables client (move_of s) c.if_filled.result) (sym c.in-Collect.is)
    (wants_if tables client (asked.Collect slot) (Rpc (Collect slot)) (held client.invoked slot) c.if_filled.result c.if_filled.ensures (λ none known. ap (λ (o : Option CallId). ask (collect (option_map request_of o)) (client_of client)) none) (λ some. (refl, some, tt)))
