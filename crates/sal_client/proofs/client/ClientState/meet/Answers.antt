-- A local step is answered, and another asks for a call or is refused.
use Rattle.sal_script.specs.Moves.{move_of}
use Rattle.sal_client.proofs.Meeting.{met_refused, met_wish}
use Rattle.sal_client.proofs.client.ClientState.meet.Goals as goal

pub returns-in-Ok : goal.returns-in-Ok
returns-in-Ok c = met_wish c.args.readers.now c.args.self.now (move_of c.args.step.now) c.in-Ok.wish c.requires.schema c.in-Ok.ensures

pub returns-in_ok-refuse-in-Err : goal.returns-in_ok-refuse-in-Err
returns-in_ok-refuse-in-Err c = met_refused c.args.readers.now c.args.self.now (move_of c.args.step.now) c.in-Err.fault c.refuse.new.self c.requires.schema c.in-Err.ensures c.in_ok-refuse-in-Err.ensures
