-- What begins is a transaction that writes.
use Rattle.sal_update.proofs.Turns.{began, not_begun, not_read}
use Rattle.sal_update.proofs.retry.begin.Goals as goal

pub returns-in-Ok-Write-clause-began : goal.returns-in-Ok-Write-clause-began
returns-in-Ok-Write-clause-began g c = began c.args.tries c.args.seat.now.view c.begin.new.seat.view c.in-Ok-Write.field-0 c.in-Ok-Write.tx c.in-Ok-Write.field-0-is c.in-Ok-Write.ensures.turn

pub returns-in-Err-clause-began : goal.returns-in-Err-clause-began
returns-in-Err-clause-began g c = not_begun c.args.tries c.args.seat.now.view c.begin.new.seat.view c.in-Err.fault c.in-Err.ensures.turn

pub unreachable-requires : goal.unreachable-requires
unreachable-requires g c = not_read c.args.tries c.args.seat.now.view c.begin.new.seat.view c.in-Ok-Read.field-0 _ c.in-Ok-Read.field-0-is c.in-Ok-Read.ensures.turn c.requires.writes
