-- A receipt that could not be settled was given.
use Rattle.sal_history.specs.declared.call.Call.TheVariants.{Settle}
use Rattle.sal_update.proofs.Turns.{still_given}
use Rattle.sal_update.proofs.retry.settled.Goals as goal

pub returns-in-Err-clause-kept : goal.returns-in-Err-clause-kept
returns-in-Err-clause-kept g c = still_given c.tokens_stay.ensures c.args.seat.now.view c.settle.new.seat.view (Settle c.args.receipt.number) c.in-Err.fault c.args.receipt c.in-Err.ensures.turn c.requires.given
