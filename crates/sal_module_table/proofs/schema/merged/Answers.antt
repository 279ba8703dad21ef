-- The least of both is that of all.
use Rattle.std.proofs.Common.{sym, ap, ◌∙◌}
use Rattle.sal_typedefs.specs.Judgements.{merged}
use Rattle.sal_typedefs.proofs.LeastLists.{merge-least}
use Rattle.sal_module_table.proofs.schema.merged.Goals as goal

pub returns-in-None : goal.returns-in-None
returns-in-None c = λ faults e. ap (merged c.args.best) (sym c.in-None.is ∙ e) ∙ merge-least c.args.best faults

pub returns-in-Some : goal.returns-in-Some
returns-in-Some c = λ faults e. c.better.ensures ∙ ap (merged c.args.best) (sym c.in-Some.is ∙ e) ∙ merge-least c.args.best faults
