use Rattle.sal_order.proofs.Parting.{differences-end-lines}
use Rattle.sal_order.proofs.laws.differences_end_lines.Goals as goal

pub returns : goal.returns
returns c = differences-end-lines
