use Rattle.sal_history_laws.proofs.Readings.{recorded_known}
use Rattle.sal_history_laws.proofs.serial.recorded_reads_are_known.Goals as goal

pub returns : goal.returns
returns c = recorded_known
