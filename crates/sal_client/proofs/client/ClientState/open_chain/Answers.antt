-- The chain that was opened is in its slot.
use Rattle.std.proofs.Common.{◌≡◌, ◌∙◌, Some, ap, refl}
use Rattle.sal_history.specs.declared.call.Call.TheVariants.{OpenChain as OpenChainCall}
use Rattle.sal_history.specs.declared.reply.Reply.TheVariants.{Chain as ChainReply}
use Rattle.sal_script.specs.Play.{Opened, set_slot}
use Rattle.sal_script.specs.declared.reply.StepReply.TheVariants.{Called}
use Rattle.sal_client.specs.declared.wish.Wish.TheVariants.{OpenChain}
use Rattle.sal_client.specs.Slots.{held}
use Rattle.sal_client.specs.Clients.{chain_of, chains_in, client_of}
use Rattle.sal_client.proofs.Places.{seen-filled}
use Rattle.sal_client.proofs.Soundness.{IsSound-linked}
use Rattle.sal_client.proofs.Leaving.{leaves_made, leaves_refused, sound_behind}
use Rattle.sal_client.proofs.client.ClientState.open_chain.Goals as goal

pub returns-in_ok-fill_slot-in-Ok : goal.returns-in_ok-fill_slot-in-Ok
returns-in_ok-fill_slot-in-Ok c =
    let old = c.args.self.now in
    let known = c.args.hub.now in
    let chain = c.in-Ok.chain in
    let wish = OpenChain c.args.slot c.args.domain in
    let call = OpenChainCall c.args.domain in
    let made = c.in-Ok.ensures.answer in
    let last = c.tokens_last.ensures in
    let filled = seen-filled chain_of (held old.chains) (held c.fill_slot.new.slots) c.args.slot chain c.in_ok-fill_slot-in-Ok.ensures in
    let same : chain_of chain ≡ (let o : Opened = record { id = chain.id; domain = c.args.domain } in o) = λ i. record { id = chain.id; domain = c.in-Ok.ensures.domain i } in
    let was = sound_behind wish known c.open_chain.new.self old call (last.begun, last.given, last.opened, last.called) refl _ made c.requires.sound in
    leaves_made wish known c.open_chain.new.self old call _ (record { number = refl; replies = refl }) (λ tables read. refl) _ c.called.result made (c.called.ensures ∙ ap (λ n. Called (ChainReply n)) c.id-id.ensures)
    ((λ i. record (client_of old) { chains = filled i }) ∙ (λ i. record (client_of old) { chains = set_slot c.args.slot (Some (same i)) (chains_in old) }))
    (IsSound-linked c.open_chain.new.self old _ c.args.slot chain was c.in-Ok.ensures.given refl refl c.in_ok-fill_slot-in-Ok.ensures (refl, refl, refl))

pub returns-in-Err : goal.returns-in-Err
returns-in-Err c =
    let old = c.args.self.now in
    let wish = OpenChain c.args.slot c.args.domain in
    let call = OpenChainCall c.args.domain in
    let last = c.tokens_last.ensures in
    leaves_refused wish c.args.hub.now c.open_chain.new.self old call old (record { number = refl; replies = refl }) (λ tables read. refl) c.in-Err.fault c.refused_call.result c.in-Err.ensures.answer c.refused_call.ensures refl
    (λ made. sound_behind wish c.args.hub.now c.open_chain.new.self old call (last.begun, last.given, last.opened, last.called) refl _ made c.requires.sound)
