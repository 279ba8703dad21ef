use Rattle.sal_history_laws.proofs.Accepted.{accepted_writes_stand}
use Rattle.sal_history_laws.proofs.Closing.{without_conflict_stays_lawful}
use Rattle.sal_history_laws.proofs.serial.accepted_writes_stand.Goals as goal

pub returns-clause-decision : goal.returns-clause-decision
returns-clause-decision c = without_conflict_stays_lawful

pub returns-clause-log : goal.returns-clause-log
returns-clause-log c = accepted_writes_stand
