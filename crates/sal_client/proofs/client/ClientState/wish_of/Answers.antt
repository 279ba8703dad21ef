-- What each kind of step asks for.
use Rattle.std.proofs.Common.{Option, ap, refl, sym, subst}
use Rattle.std.specs.Option.{option_map}
use Rattle.sal_script.specs.Moves as asked
use Rattle.sal_script.specs.Moves.{move_of}
use Rattle.sal_script.specs.Play.{chain_begin, close_chain, settle, take_batch, unlisten}
use Rattle.sal_script.specs.declared.script.ScriptStep.{ScriptStep}
use Rattle.sal_hub.specs.declared.chain.Chain.{Chain}
use Rattle.sal_hub.specs.declared.receipt.Receipt.{Receipt}
use Rattle.sal_client.specs.declared.follower.Follower.{Follower}
use Rattle.sal_client.specs.declared.wish.Wish.TheVariants.{ChainBegin, CloseChain, Settle, Take, Unlisten}
use Rattle.sal_client.specs.Clients.{chain_of, client_of, number_of}
use Rattle.sal_client.specs.Followers.{listener_of}
use Rattle.sal_client.specs.Slots.{held}
use Rattle.sal_client.specs.Wishes.{Wants}
use Rattle.sal_client.proofs.Wanted.{wants_if, wants_listen}
use Rattle.sal_client.proofs.client.ClientState.wish_of.Goals as goal

pub returns-in-Settle : goal.returns-in-Settle
returns-in-Settle c =
    let tables = c.args.readers.now in
    let client = c.args.self.now in
    subst (λ (s : ScriptStep). Wants tables client (move_of s) c.if_filled.result) (sym c.in-Settle.is)
    (wants_if tables client (asked.Settle c.in-Settle.slot) (Settle c.in-Settle.slot) (held client.receipts c.in-Settle.slot) c.if_filled.result c.if_filled.ensures (λ none known. ap (λ (o : Option Receipt). settle (client_of client) (option_map number_of o)) none) (λ some. (refl, some, tt)))

pub returns-in-ChainBegin : goal.returns-in-ChainBegin
returns-in-ChainBegin c =
    let tables = c.args.readers.now in
    let client = c.args.self.now in
    subst (λ (s : ScriptStep). Wants tables client (move_of s) c.if_filled-in-ChainBegin.result) (sym c.in-ChainBegin.is)
    (wants_if tables client (asked.ChainBegin c.in-ChainBegin.chain c.in-ChainBegin.slot c.in-ChainBegin.mode) (ChainBegin c.in-ChainBegin.chain c.in-ChainBegin.slot c.in-ChainBegin.mode) (held client.chains c.in-ChainBegin.chain) c.if_filled-in-ChainBegin.result c.if_filled-in-ChainBegin.ensures (λ none known. ap (λ (o : Option Chain). chain_begin c.in-ChainBegin.mode (client_of client) (option_map chain_of o)) none) (λ some. (refl, some, tt)))

pub returns-in-CloseChain : goal.returns-in-CloseChain
returns-in-CloseChain c =
    let tables = c.args.readers.now in
    let client = c.args.self.now in
    subst (λ (s : ScriptStep). Wants tables client (move_of s) c.if_filled-in-CloseChain.result) (sym c.in-CloseChain.is)
    (wants_if tables client (asked.CloseChain c.in-CloseChain.chain) (CloseChain c.in-CloseChain.chain) (held client.chains c.in-CloseChain.chain) c.if_filled-in-CloseChain.result c.if_filled-in-CloseChain.ensures (λ none known. ap (λ (o : Option Chain). close_chain (client_of client) (option_map chain_of o)) none) (λ some. (refl, some, tt)))

pub returns-in-Take : goal.returns-in-Take
returns-in-Take c =
    let tables = c.args.readers.now in
    let client = c.args.self.now in
    subst (λ (s : ScriptStep). Wants tables client (move_of s) c.if_filled-in-Take.result) (sym c.in-Take.is)
    (wants_if tables client (asked.Take c.in-Take.listener) (Take c.in-Take.listener) (held client.listeners c.in-Take.listener) c.if_filled-in-Take.result c.if_filled-in-Take.ensures (λ none known. ap (λ (o : Option Follower). take_batch (client_of client) (option_map listener_of o)) none) (λ some. (refl, some, tt)))

pub returns-in-Unlisten : goal.returns-in-Unlisten
returns-in-Unlisten c =
    let tables = c.args.readers.now in
    let client = c.args.self.now in
    subst (λ (s : ScriptStep). Wants tables client (move_of s) c.if_filled-in-Unlisten.result) (sym c.in-Unlisten.is)
    (wants_if tables client (asked.Unlisten c.in-Unlisten.listener) (Unlisten c.in-Unlisten.listener) (held client.listeners c.in-Unlisten.listener) c.if_filled-in-Unlisten.result c.if_filled-in-Unlisten.ensures (λ none known. ap (λ (o : Option Follower). unlisten (client_of client) (option_map listener_of o)) none) (λ some. (refl, some, tt)))

pub returns-in-Listen : goal.returns-in-Listen
returns-in-Listen c =
    let tables = c.args.readers.now in
    let client = c.args.self.now in
    subst (λ (s : ScriptStep). Wants tables client (move_of s) c.listen_wish.result) (sym c.in-Listen.is)
    (wants_listen tables client c.in-Listen.listener c.in-Listen.domain c.in-Listen.store c.in-Listen.path c.target_of.result c.listen_wish.result c.target_of.ensures c.listen_wish.ensures)
