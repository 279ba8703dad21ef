-- The refusal is one more of the client's replies.
use Rattle.sal_client.proofs.Meeting.{refused_by_reply}
use Rattle.sal_client.proofs.Places.{on_ok}
use Rattle.sal_client.proofs.client.ClientState.refuse.Goals as goal

pub returns : goal.returns
returns c = on_ok c.keep.result (refused_by_reply c.args.fault c.in_ok-reply.reply c.args.self.now c.keep.new.self c.in_ok-reply.ensures) c.keep.ensures
