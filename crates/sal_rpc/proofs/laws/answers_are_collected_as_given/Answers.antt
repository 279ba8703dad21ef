use Rattle.sal_rpc.proofs.Answered.{answered-as-given, answers-stay}
use Rattle.sal_rpc.proofs.laws.answers_are_collected_as_given.Goals as goal

pub returns-clause-given : goal.returns-clause-given
returns-clause-given c = answered-as-given

pub returns-clause-stays : goal.returns-clause-stays
returns-clause-stays c = answers-stay
