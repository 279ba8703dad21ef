-- A collection changes no slot.
use Rattle.std.proofs.Common.{refl, ap, ◌∙◌, subst}
use Rattle.std.specs.Option.{option_map}
use Rattle.sal_history.specs.declared.call.Call.TheVariants.{Collect as CollectCall}
use Rattle.sal_script.specs.Play.{ask}
use Rattle.sal_script.specs.Services.{collect}
use Rattle.sal_hub.specs.Routed.{collect_reply}
use Rattle.sal_client.specs.declared.rpcs.RpcWish.TheVariants.{Collect}
use Rattle.sal_client.specs.declared.wish.Wish.TheVariants.{Rpc}
use Rattle.sal_client.specs.Answers.{IsAnswer, said}
use Rattle.sal_client.specs.Clients.{client_of, request_of}
use Rattle.sal_client.proofs.Leaving.{leaves_slots}
use Rattle.sal_client.proofs.client.ClientState.collect.Goals as goal

pub collect-requires : goal.collect-requires
collect-requires c = record { token = c.requires.sound.invoked c.args.slot c.filled-id.result.now c.filled-id.ensures }

pub returns : goal.returns
returns c =
    leaves_slots (Rpc (Collect c.args.slot)) c.args.hub.now c.collect.new.self c.args.self.now (CollectCall c.filled-id.result.now.number) (c.tokens_last.ensures.begun, c.tokens_last.ensures.given, c.tokens_last.ensures.opened, c.tokens_last.ensures.called) refl c.requires.sound
    (λ tables read. ap (λ o. ask (collect (option_map request_of o)) (client_of c.args.self.now)) c.filled-id.ensures) (λ r. refl) (collect_reply c.filled-id.result.now.rpc) c.collect.result c.answer_to.result c.collect.ensures.answer
    (subst (λ q. IsAnswer q c.answer_to.result) (c.output.ensures ∙ ap (λ n. said (collect_reply n) c.collect.result) c.rpc.ensures) c.answer_to.ensures)
