use Rattle.std.proofs.Common.{sym, ◌∙◌, arith}
use Rattle.std.specs.FinMap.{find}
use Rattle.sal_types.specs.Order.{path_cmp}
use Rattle.sal_mod.specs.Early.{is_early}
use Rattle.sal_mod.proofs.Prefixes.{any_prefix-next, any_prefix-here}
use Rattle.sal_mod.proofs.firsts.is_early_on.Goals as goal

pub returns-then-is_early_at : goal.returns-then-is_early_at
returns-then-is_early_at c = sym (any_prefix-here (λ q. is_early c.args.before (find path_cmp q c.args.places.now)) c.args.steps.now c.loop-depth.depth (sym c.is_early_at.ensures ∙ c.if-is_early_at.true) (omega arith))

pub loop-depth-preserved : goal.loop-depth-preserved
loop-depth-preserved c = c.loop-depth.invariant ∙ any_prefix-next (λ q. is_early c.args.before (find path_cmp q c.args.places.now)) c.args.steps.now c.loop-depth.depth (omega arith) (sym c.is_early_at.ensures ∙ c.if-is_early_at.false)
