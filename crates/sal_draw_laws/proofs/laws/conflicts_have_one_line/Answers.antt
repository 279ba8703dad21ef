use Rattle.sal_draw_laws.proofs.Clashes.{of_entry}
use Rattle.sal_draw_laws.proofs.laws.conflicts_have_one_line.Goals as goal

pub returns : goal.returns
returns c = of_entry
