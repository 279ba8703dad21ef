use Rattle.sal_rules.proofs.Versions.{operations_stay, refusals_stay}
use Rattle.sal_rules.proofs.laws.operations_stay_lawful.Goals as goal

pub returns-clause-operations : goal.returns-clause-operations
returns-clause-operations c = operations_stay

pub returns-clause-refusals : goal.returns-clause-refusals
returns-clause-refusals c = refusals_stay
