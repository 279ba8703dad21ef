use Rattle.std.proofs.Common.{ap, ◌∙◌}
use Rattle.std.specs.Ordering.{is_eq}
use Rattle.sal_check.proofs.Doubles.{cmp-cells}
use Rattle.sal_check.proofs.fresh.are_same.Goals as goal

pub returns : goal.returns
returns c = c.is_eq.ensures ∙ ap is_eq (c.cmp.ensures ∙ cmp-cells c.args.some.now c.args.others.now)
