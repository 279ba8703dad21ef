use Rattle.sal_script.proofs.FirstLines.{first_lines_tell_one_order}
use Rattle.sal_script.proofs.laws.first_lines_tell_one_order.Goals as goal

pub returns : goal.returns
returns c = first_lines_tell_one_order
