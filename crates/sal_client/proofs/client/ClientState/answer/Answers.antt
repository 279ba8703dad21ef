-- The reply is one more of the client's.
use Rattle.sal_script.specs.Moves.{move_of}
use Rattle.sal_client.proofs.Meeting.{met_answered}
use Rattle.sal_client.proofs.Places.{on_ok}
use Rattle.sal_client.proofs.client.ClientState.answer.Goals as goal

pub returns : goal.returns
returns c = on_ok c.keep.result (met_answered c.args.readers.now c.args.self.now (move_of c.args.step.now) c.in_ok-reply.reply c.meet_local.new.self c.keep.new.self c.in_ok-reply.ensures) c.keep.ensures
