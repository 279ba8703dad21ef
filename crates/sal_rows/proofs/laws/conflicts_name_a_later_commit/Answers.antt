use Rattle.sal_rows.proofs.Named.{names_a_later_commit}
use Rattle.sal_rows.proofs.laws.conflicts_name_a_later_commit.Goals as goal

pub returns : goal.returns
returns c = names_a_later_commit
