use Rattle.sal_note.proofs.Counted.{subscribers-are-callers}
use Rattle.sal_note.proofs.laws.subscribers_are_callers.Goals as goal

pub returns : goal.returns
returns c = subscribers-are-callers
