-- Rows read at the root are whole.
use Rattle.sal_prepare.proofs.SoundWorlds.{worlds_are_sound}
use Rattle.sal_prepare.proofs.laws.openings_are_closed.Goals as goal

pub returns : goal.returns
returns c = worlds_are_sound c.rows_that_were_read_are_whole.ensures.whole
