-- The chain's transaction that begins is in its slot.
use Rattle.std.proofs.Common.{◌≡◌, ◌∙◌, Some, ap, refl, sym}
use Rattle.std.specs.Option.{option_map}
use Rattle.sal_history.specs.History.{domain_of, history}
use Rattle.sal_history.specs.declared.call.Call.TheVariants.{ChainBegin as ChainBeginCall}
use Rattle.sal_script.specs.Play.{chain_begin}
use Rattle.sal_hub.specs.Tokens.{base_of, begun_of}
use Rattle.sal_client.specs.declared.wish.Wish.TheVariants.{ChainBegin}
use Rattle.sal_client.specs.Slots.{held}
use Rattle.sal_client.specs.Clients.{IsOwn, chain_of, client_of, open_of}
use Rattle.sal_client.proofs.Places.{seen-filled}
use Rattle.sal_client.proofs.Domains.{chained_live, domain-chain, live_within}
use Rattle.sal_client.proofs.Soundness.{IsSound-filled}
use Rattle.sal_client.proofs.Answering.{begun_by, in_world, kept_in_chain}
use Rattle.sal_client.proofs.Leaving.{leaves_made, leaves_refused, sound_behind}
use Rattle.sal_client.proofs.client.ClientState.chain_begin.Goals as goal

pub chain_begin-requires : goal.chain_begin-requires
chain_begin-requires c = record { token = c.requires.sound.chains c.args.from c.filled-chain.result.now c.filled-chain.ensures }

pub returns-in_ok-fill_begun-in-Ok : goal.returns-in_ok-fill_begun-in-Ok
returns-in_ok-fill_begun-in-Ok c =
    let old = c.args.self.now in
    let known = c.args.hub.now in
    let chain = c.filled-chain.result.now in
    let tx = c.in-Ok.tx in
    let wish = ChainBegin c.args.from c.args.slot c.args.mode in
    let call = ChainBeginCall chain.id c.args.mode in
    let made = c.in-Ok.ensures.answer in
    let fresh = c.in-Ok.ensures.fresh in
    let last = c.tokens_last.ensures in
    let found : held old.chains c.args.from ≡ Some chain = c.filled-chain.ensures in
    let filled = seen-filled open_of (held old.transactions) (held c.fill_begun.new.slots) c.args.slot tx c.in_ok-fill_begun-in-Ok.ensures.slot in
    let answered = history known.world known.log in
    let live = chained_live known.world answered chain.id _ (begun_of tx).base_commit _ (begun_of tx).on made.reply in
    let same : domain_of answered chain.id ≡ (begun_of tx).domain = domain-chain known chain (c.requires.sound.chains c.args.from chain found) ∙ sym c.in-Ok.ensures.fresh.domain in
    let own : IsOwn c.chain_begin.new.self tx = record {
      token = c.in-Ok.ensures.token;
      within = in_world made same (live_within known.world answered (domain_of answered chain.id) live);
    } in
    let was = sound_behind wish known c.chain_begin.new.self old call (last.begun, last.given, last.opened, last.called) refl _ made c.requires.sound in
    leaves_made wish known c.chain_begin.new.self old call _ (record { number = refl; replies = refl }) (λ tables read. ap (λ o. chain_begin c.args.mode (client_of old) (option_map chain_of o)) found) _ c.in_ok-fill_begun-in-Ok.field-0 made c.in_ok-fill_begun-in-Ok.ensures.reply
    (kept_in_chain known c.args.from c.args.slot (chain_of chain) c.args.mode tx (client_of old) _ (ap (option_map chain_of) found) fresh (begun_by chain.domain (begun_of tx) (base_of tx) made c.in-Ok.ensures.token fresh.place fresh.domain) filled)
    (IsSound-filled c.chain_begin.new.self old _ c.args.slot tx was own c.in_ok-fill_begun-in-Ok.ensures.slot refl refl (refl, refl, refl))

pub returns-in-Err : goal.returns-in-Err
returns-in-Err c =
    let old = c.args.self.now in
    let chain = c.filled-chain.result.now in
    let wish = ChainBegin c.args.from c.args.slot c.args.mode in
    let call = ChainBeginCall chain.id c.args.mode in
    let last = c.tokens_last.ensures in
    let found : held old.chains c.args.from ≡ Some chain = c.filled-chain.ensures in
    leaves_refused wish c.args.hub.now c.chain_begin.new.self old call old (record { number = refl; replies = refl }) (λ tables read. ap (λ o. chain_begin c.args.mode (client_of old) (option_map chain_of o)) found) c.in-Err.fault c.refused_call.result
    c.in-Err.ensures.answer c.refused_call.ensures refl (λ made. sound_behind wish c.args.hub.now c.chain_begin.new.self old call (last.begun, last.given, last.opened, last.called) refl _ made c.requires.sound)
