-- The invariants hold over the new log.
use Rattle.std.proofs.Common.{refl}
use Rattle.sal_history.specs.declared.call.Call.TheVariants.{ChainBegin}
use Rattle.sal_history.specs.declared.reply.Reply.TheVariants.{Begun}
use Rattle.sal_tx.specs.declared.tx.Tx.{Tx}
use Rattle.sal_hub.specs.Tokens.{begun_of}
use Rattle.sal_hub.proofs.Wholes.{whole_chained}
use Rattle.sal_hub.proofs.hub.Hub.chain_begin.Goals as goal

pub invariant_of-self : goal.invariant_of-self
invariant_of-self c =
    let done = c.chain_begin.ensures in
    whole_chained c.self.invariant done.kept c.args.client (ChainBegin c.args.chain.now.id c.args.mode) (λ m. refl)
    c.chain_begin.new.chains (λ (tx : Tx). Begun (begun_of tx).base_commit (begun_of tx).on) c.chain_begin.result refl refl done.chains done.answer
