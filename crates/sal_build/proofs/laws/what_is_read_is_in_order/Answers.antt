-- By what the text spells.
use Rattle.sal_stmt.proofs.Spelled.{read_is_spelled}
use Rattle.sal_build.proofs.OrderedTexts.{in_order}
use Rattle.sal_build.proofs.laws.what_is_read_is_in_order.Goals as goal

pub returns : goal.returns
returns c text stmt few read = in_order text stmt _ few (read_is_spelled text stmt read)
