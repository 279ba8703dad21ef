use Rattle.std.proofs.Common.{◌∙◌}
use Rattle.sal_types.specs.Order.{step_eq-cmp}
use Rattle.sal_data.proofs.read.is_asked.Goals as goal

pub returns : goal.returns
returns c = c.eq.ensures ∙ step_eq-cmp c.args.step c.args.asked.now
