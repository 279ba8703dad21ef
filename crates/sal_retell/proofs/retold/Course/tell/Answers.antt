-- What the parts of the step gave.
use Rattle.std.proofs.lemmas.Result.{on_ok_weaker}
use Rattle.sal_retell.proofs.Telling.{told_one}
use Rattle.sal_retell.proofs.retold.Course.tell.Goals as goal

pub returns : goal.returns
returns c =
    on_ok_weaker c.append.result
    (λ grown. told_one c.args.outcomes.now c.args.call.now c.args.self.now (record { front = c.note.new.self; replies = c.append.new.list }) c.reply_to.new.front c.asked_on-footing.result c.in_ok-reply.reply c.asked_on-footing.ensures
    c.in_ok-reply.ensures.answer c.in_ok-reply.ensures.mounts c.in_ok-reply.ensures.same c.in_ok-note.ensures.lists c.in_ok-note.ensures.mounts grown)
    c.append.ensures
