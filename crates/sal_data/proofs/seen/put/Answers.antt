use Rattle.sal_data.proofs.Following.{have_more}
use Rattle.sal_data.proofs.seen.put.Goals as goal

pub returns-clause-more : goal.returns-clause-more
returns-clause-more c = have_more c.args.others.now.keys c.insert.new.self.keys c.args.step (λ q. c.in_ok-is_new.ensures.updates.0 q)
