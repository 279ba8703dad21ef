use Rattle.sal_script.proofs.ForSchema.{openings_are_whole}
use Rattle.sal_script.proofs.laws.openings_are_whole.Goals as goal

pub returns : goal.returns
returns c = openings_are_whole
