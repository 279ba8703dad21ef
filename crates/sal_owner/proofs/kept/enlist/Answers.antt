use Rattle.sal_owner.proofs.Maps.{put-back}
use Rattle.sal_owner.proofs.kept.enlist.Goals as goal

pub returns-in-Err-clause-same_queues : goal.returns-in-Err-clause-same_queues
returns-in-Err-clause-same_queues c = put-back c.args.kinds.now c.add.new.self c.remove.new.self c.args.entity.now c.args.client c.requires c.in_ok-add.ensures.ok c.remove.ensures
