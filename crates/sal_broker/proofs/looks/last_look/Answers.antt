-- A late answer says that the mark is not there.
use Rattle.std.proofs.Common.{◌≡◌, false, rules, ap, ◌∙◌, subst}
use Rattle.sal_hub.specs.HubHistory.{HubHistory}
use Rattle.sal_hub.specs.Marks.{has_mark}
use Rattle.sal_hub.specs.Seen.{seen_reply}
use Rattle.sal_broker.proofs.Lateness.{not_there}
use Rattle.sal_broker.proofs.looks.last_look.Goals as goal

pub returns-in-Ok-Late-clause-missed : goal.returns-in-Ok-Late-clause-missed
returns-in-Ok-Late-clause-missed c = (
  search rules,
  search rules,
  subst (λ (k : HubHistory). has_mark k.log c.args.mark ≡ false) c.hub.ensures.value (not_there c.hub.result.now.world c.hub.result.now.log c.number-client.result c.args.mark (c.in-Ok-Late.ensures.answer.reply ∙ ap seen_reply c.in-Ok-Late.field-0-is)),
)
