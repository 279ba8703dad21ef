-- A removal changes no slot.
use Rattle.std.proofs.Common.{refl, ap, subst}
use Rattle.std.specs.Option.{option_map}
use Rattle.sal_history.specs.declared.call.Call.TheVariants.{Unlisten as UnlistenCall}
use Rattle.sal_history.specs.declared.reply.Reply.TheVariants.{Accepted}
use Rattle.sal_script.specs.Play.{unlisten}
use Rattle.sal_client.specs.declared.wish.Wish.TheVariants.{Unlisten}
use Rattle.sal_client.specs.Answers.{IsAnswer}
use Rattle.sal_client.specs.Clients.{client_of}
use Rattle.sal_client.specs.Followers.{listener_of}
use Rattle.sal_client.proofs.Following.{token_of}
use Rattle.sal_client.proofs.Leaving.{leaves_slots}
use Rattle.sal_client.proofs.client.ClientState.unlisten.Goals as goal

pub unlisten-requires : goal.unlisten-requires
unlisten-requires c =
    let f = c.filled-follower.result.now in
    record { token = token_of c.args.hub.now c.args.self.now.number f (c.requires.sound.listeners c.args.slot f c.filled-follower.ensures) }

pub returns : goal.returns
returns c =
    leaves_slots (Unlisten c.args.slot) c.args.hub.now c.unlisten.new.self c.args.self.now (UnlistenCall c.filled-follower.result.now.id.number) (c.tokens_last.ensures.begun, c.tokens_last.ensures.given, c.tokens_last.ensures.opened, c.tokens_last.ensures.called) refl c.requires.sound
    (λ tables read. ap (λ o. unlisten (client_of c.args.self.now) (option_map listener_of o)) c.filled-follower.ensures) (λ r. refl) (λ _. Accepted) c.unlisten.result c.answer_to.result c.unlisten.ensures.answer
    (subst (λ q. IsAnswer q c.answer_to.result) c.accepted.ensures c.answer_to.ensures)
