use Rattle.sal_rows.proofs.Quiet.{no_clash-quiet}
use Rattle.sal_rows.proofs.laws.no_conflict_leaves_the_paths_alone.Goals as goal

pub returns : goal.returns
returns c = no_clash-quiet
