-- The collected answer of a request.
use Rattle.sal_history.proofs.Routed.{answers-collected, collected-as-given}
use Rattle.sal_history.proofs.laws.answers_are_collected_as_given.Goals as goal

pub returns-clause-given : goal.returns-clause-given
returns-clause-given c = collected-as-given

pub returns-clause-stays : goal.returns-clause-stays
returns-clause-stays c = answers-collected
