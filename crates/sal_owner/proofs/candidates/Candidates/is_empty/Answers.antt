use Rattle.std.proofs.Common.{sym, ◌∙◌}
use Rattle.sal_owner.proofs.InSlots.{none-first}
use Rattle.sal_owner.proofs.candidates.Candidates.is_empty.Goals as goal

pub returns-in-None : goal.returns-in-None
returns-in-None c = λ e. none-first c.args.self.now (sym c.first.ensures ∙ c.in-None.is)
