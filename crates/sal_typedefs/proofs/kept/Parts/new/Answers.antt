use Rattle.sal_typedefs.proofs.SettledLists.{parts-none}
use Rattle.sal_typedefs.proofs.kept.Parts.new.Goals as goal

pub returns-clause-none : goal.returns-clause-none
returns-clause-none c w = parts-none w _ c.new.ensures.items
