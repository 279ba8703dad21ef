use Rattle.sal_script.proofs.Played.{what_is_played_can_be_left}
use Rattle.sal_script.proofs.laws.what_is_played_can_be_left.Goals as goal

pub returns : goal.returns
returns c = what_is_played_can_be_left
