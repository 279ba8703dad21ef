-- A version that the script has is asked for, and another is refused.
use Rattle.std.proofs.Common.{◌≡◌, false, true, ap, if◌then◌else◌, refl, rules, sym, ◌∙◌}
use Rattle.sal_history.specs.declared.call.Call.TheVariants.{Upgrade as UpgradeCall}
use Rattle.sal_script.specs.declared.reply.StepRefusal.TheVariants.{NoUpgrade}
use Rattle.sal_script.specs.Play.{refused, shared}
use Rattle.sal_client.specs.Clients.{client_of}
use Rattle.sal_client.proofs.client.ClientState.upgrade_wish.Goals as goal

pub returns-then-has_upgrade : goal.returns-then-has_upgrade
returns-then-has_upgrade c =
    let yes : c.has_upgrade.result ≡ true = search rules in
    (refl, tt, sym c.has_upgrade.ensures ∙ yes)

pub returns-else-has_upgrade : goal.returns-else-has_upgrade
returns-else-has_upgrade c known =
    let no : c.has_upgrade.result ≡ false = search rules in
    ap (λ b. if b then shared (UpgradeCall c.args.version) else refused NoUpgrade (client_of c.args.self.now)) (sym c.has_upgrade.ensures ∙ no)
