-- A close changes no slot.
use Rattle.std.proofs.Common.{refl, ap, subst}
use Rattle.std.specs.Option.{option_map}
use Rattle.sal_history.specs.declared.call.Call.TheVariants.{CloseChain as CloseChainCall}
use Rattle.sal_history.specs.declared.reply.Reply.TheVariants.{Accepted}
use Rattle.sal_script.specs.Play.{close_chain}
use Rattle.sal_client.specs.declared.wish.Wish.TheVariants.{CloseChain}
use Rattle.sal_client.specs.Answers.{IsAnswer}
use Rattle.sal_client.specs.Clients.{chain_of, client_of}
use Rattle.sal_client.proofs.Leaving.{leaves_slots}
use Rattle.sal_client.proofs.client.ClientState.close_chain.Goals as goal

pub close_chain-requires : goal.close_chain-requires
close_chain-requires c = record { token = c.requires.sound.chains c.args.slot c.filled-chain.result.now c.filled-chain.ensures }

pub returns : goal.returns
returns c =
    leaves_slots (CloseChain c.args.slot) c.args.hub.now c.close_chain.new.self c.args.self.now (CloseChainCall c.filled-chain.result.now.id) (c.tokens_last.ensures.begun, c.tokens_last.ensures.given, c.tokens_last.ensures.opened, c.tokens_last.ensures.called) refl c.requires.sound
    (λ tables read. ap (λ o. close_chain (client_of c.args.self.now) (option_map chain_of o)) c.filled-chain.ensures) (λ r. refl) (λ _. Accepted) c.close_chain.result c.answer_to.result c.close_chain.ensures.answer
    (subst (λ q. IsAnswer q c.answer_to.result) c.accepted.ensures c.answer_to.ensures)
