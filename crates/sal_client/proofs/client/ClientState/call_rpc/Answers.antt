-- The calls for RPCs, and what they leave in the slots.
use Rattle.std.proofs.Common.{refl, ap, sym, ◌∙◌, subst}
use Rattle.std.specs.Option.{option_map}
use Rattle.serde_json.specs.View.{view}
use Rattle.sal_history.specs.declared.call.Call.TheVariants as made
use Rattle.sal_history.specs.declared.reply.Reply.TheVariants.{Accepted}
use Rattle.sal_script.specs.Play.{ask}
use Rattle.sal_script.specs.Tables.{last_in}
use Rattle.sal_script.specs.Services.{answer}
use Rattle.sal_client.specs.declared.rpcs.RpcWish.{RpcWish}
use Rattle.sal_client.specs.declared.rpcs.RpcWish.TheVariants as wishes
use Rattle.sal_client.specs.declared.wish.Wish.TheVariants.{Rpc}
use Rattle.sal_client.specs.Answers.{IsAnswer}
use Rattle.sal_client.specs.Asked.{invocation_of}
use Rattle.sal_client.specs.Clients.{client_of}
use Rattle.sal_client.specs.Leaving.{Leaves}
use Rattle.sal_client.specs.Wishes.{CanMake}
use Rattle.sal_client.proofs.Leaving.{leaves_slots}
use Rattle.sal_client.proofs.client.ClientState.call_rpc.Goals as goal

pub returns-in-Provide : goal.returns-in-Provide
returns-in-Provide c =
    let client = c.args.self.now in
    let last = c.tokens_last.ensures in
    subst (λ (w : RpcWish). Leaves (Rpc w) c.args.hub.now client c.provide.new.self client c.answer_to.result) (sym c.in-Provide.is)
    (leaves_slots (Rpc (wishes.Provide c.in-Provide.service)) c.args.hub.now c.provide.new.self client (made.Provide c.in-Provide.service.rpc c.in-Provide.service.context) (last.begun, last.given, last.opened, last.called) refl c.requires.sound (λ tables read. ap (λ o. ask o (client_of client)) read) (λ r. refl)
    (λ _. Accepted) c.provide.result c.answer_to.result c.provide.ensures.answer (subst (λ q. IsAnswer q c.answer_to.result) c.accepted.ensures c.answer_to.ensures))

pub returns-in-Withdraw : goal.returns-in-Withdraw
returns-in-Withdraw c =
    let client = c.args.self.now in
    let last = c.tokens_last.ensures in
    subst (λ (w : RpcWish). Leaves (Rpc w) c.args.hub.now client c.withdraw.new.self client c.answer_to-in-Withdraw.result) (sym c.in-Withdraw.is)
    (leaves_slots (Rpc (wishes.Withdraw c.in-Withdraw.service)) c.args.hub.now c.withdraw.new.self client (made.Withdraw c.in-Withdraw.service.rpc c.in-Withdraw.service.context) (last.begun, last.given, last.opened, last.called) refl c.requires.sound (λ tables read. ap (λ o. ask o (client_of client)) read) (λ r. refl)
    (λ _. Accepted) c.withdraw.result c.answer_to-in-Withdraw.result c.withdraw.ensures.answer (subst (λ q. IsAnswer q c.answer_to-in-Withdraw.result) c.accepted-in-Withdraw.ensures c.answer_to-in-Withdraw.ensures))

pub returns-in-Answer : goal.returns-in-Answer
returns-in-Answer c =
    let client = c.args.self.now in
    let last = c.tokens_last.ensures in
    subst (λ (w : RpcWish). Leaves (Rpc w) c.args.hub.now client c.answer.new.self client c.answer_to-in-Answer.result) (sym c.in-Answer.is)
    (leaves_slots (Rpc (wishes.Answer c.in-Answer.slot c.in-Answer.answer)) c.args.hub.now c.answer.new.self client (made.Answer c.in-Answer.answer.request.id c.in-Answer.answer.output) (last.begun, last.given, last.opened, last.called) refl c.requires.sound (λ tables read. ap (λ o. ask (answer (last_in tables 0) (option_map invocation_of o) (view c.in-Answer.answer.value.value)) (client_of client)) (subst (λ (w : RpcWish). CanMake (Rpc w) client) c.in-Answer.is c.requires.can) ∙ ap (λ o. ask o (client_of client)) read) (λ r. refl)
    (λ _. Accepted) c.answer.result c.answer_to-in-Answer.result c.answer.ensures.answer (subst (λ q. IsAnswer q c.answer_to-in-Answer.result) c.accepted-in-Answer.ensures c.answer_to-in-Answer.ensures))
