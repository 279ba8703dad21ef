-- The answer is one more of the client's replies.
use Rattle.std.proofs.Common.{inr, ◌∙◌}
use Rattle.sal_client.specs.Clients.{client_of}
use Rattle.sal_client.proofs.Going.{goes_on}
use Rattle.sal_client.proofs.run.ClientRun.make.Goals as goal

pub returns-clause-makes : goal.returns-clause-makes
returns-clause-makes c tables read =
    let old = c.args.self.now.client in
    let between = client_of c.call.new.self in
    goes_on tables old.number c.args.hub.now c.call.new.hub c.args.wish (client_of old) between _ c.in_ok-reply.reply (c.in_ok-reply.ensures.answers tables read) c.in_ok-keep.ensures.client

pub returns-clause-sound : goal.returns-clause-sound
returns-clause-sound c = c.in_ok-keep.ensures.sound.sound c.call.new.hub c.in_ok-reply.ensures.sound

pub returns-clause-number : goal.returns-clause-number
returns-clause-number c = c.in_ok-keep.ensures.number ∙ c.in_ok-reply.ensures.same.number

pub returns-clause-grows : goal.returns-clause-grows
returns-clause-grows c = inr c.in_ok-reply.ensures.grows
