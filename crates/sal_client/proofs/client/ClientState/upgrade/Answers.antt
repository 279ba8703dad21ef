-- An upgrade changes no slot.
use Rattle.std.proofs.Common.{ap, if◌then◌else◌, refl, subst}
use Rattle.sal_history.specs.declared.call.Call.TheVariants.{Upgrade as UpgradeCall}
use Rattle.sal_history.specs.declared.reply.Reply.TheVariants.{Accepted}
use Rattle.sal_script.specs.declared.reply.StepRefusal.TheVariants.{NoUpgrade}
use Rattle.sal_script.specs.Play.{refused, shared}
use Rattle.sal_client.specs.declared.wish.Wish.TheVariants.{Upgrade}
use Rattle.sal_client.specs.Answers.{IsAnswer}
use Rattle.sal_client.specs.Clients.{client_of}
use Rattle.sal_client.proofs.Domains.{upgrade_within}
use Rattle.sal_client.proofs.Leaving.{leaves_slots}
use Rattle.sal_client.proofs.client.ClientState.upgrade.Goals as goal

pub upgrade-requires : goal.upgrade-requires
upgrade-requires c =
    let within = upgrade_within c.args.hub.now.world c.args.version c.requires.read in
    record { low = within.0; high = within.1 }

pub returns : goal.returns
returns c =
    let last = c.tokens_last.ensures in
    leaves_slots (Upgrade c.args.version) c.args.hub.now c.upgrade.new.self c.args.self.now (UpgradeCall c.args.version) (last.begun, last.given, last.opened, last.called) refl c.requires.sound
    (λ tables read. ap (λ b. if b then shared (UpgradeCall c.args.version) else refused NoUpgrade (client_of c.args.self.now)) read) (λ r. refl)
    (λ _. Accepted) c.upgrade.result c.answer_to.result c.upgrade.ensures.answer (subst (λ q. IsAnswer q c.answer_to.result) c.accepted.ensures c.answer_to.ensures)
