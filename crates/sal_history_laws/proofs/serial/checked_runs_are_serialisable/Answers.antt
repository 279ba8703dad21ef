use Rattle.sal_history_laws.proofs.Plays.{each_read_stands, logs_are_serialisable, reads_stand}
use Rattle.sal_history_laws.proofs.serial.checked_runs_are_serialisable.Goals as goal

pub returns : goal.returns
returns c = record { log = logs_are_serialisable; receipt = reads_stand; read = each_read_stands }
