use Rattle.std.proofs.Common.{is_some, ap, ◌∙◌}
use Rattle.sal_json.proofs.Begun.{at_start}
use Rattle.sal_json.proofs.whole.in_steps.Goals as goal

pub returns-in-Ok : goal.returns-in-Ok
returns-in-Ok c = c.is_some.ensures ∙ ap is_some c.in-Ok.ensures.span ∙ at_start c.args.program.now c.args.text.now
