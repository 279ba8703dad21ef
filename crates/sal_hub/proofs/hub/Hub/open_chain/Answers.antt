-- The invariants hold over the new log.
use Rattle.std.proofs.Common.{refl}
use Rattle.sal_history.specs.declared.call.Call.TheVariants.{OpenChain}
use Rattle.sal_history.specs.declared.reply.Reply.TheVariants.{Chain as Opened}
use Rattle.sal_hub.specs.declared.chain.Chain.{Chain}
use Rattle.sal_hub.proofs.Wholes.{whole_chained}
use Rattle.sal_hub.proofs.hub.Hub.open_chain.Goals as goal

pub invariant_of-self : goal.invariant_of-self
invariant_of-self c =
    let done = c.open_chain.ensures in
    whole_chained c.self.invariant done.kept c.args.client (OpenChain c.args.domain) (λ m. refl)
    c.open_chain.new.chains (λ (chain : Chain). Opened chain.id) c.open_chain.result refl refl done.chains done.answer
