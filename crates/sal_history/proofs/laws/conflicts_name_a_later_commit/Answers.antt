-- The commit and the path that a conflict names.
use Rattle.sal_history.proofs.Decisions.{named}
use Rattle.sal_history.proofs.Numbers.{named_in_log}
use Rattle.sal_history.proofs.laws.conflicts_name_a_later_commit.Goals as goal

pub returns-clause-decision : goal.returns-clause-decision
returns-clause-decision c = named

pub returns-clause-log : goal.returns-clause-log
returns-clause-log c = named_in_log
