use Rattle.sal_grouping.proofs.KeyMaps.{put-any}
use Rattle.sal_grouping.proofs.children.put_key.Goals as goal

pub returns-clause-known : goal.returns-clause-known
returns-clause-known c = put-any c.args.map.now c.insert.new.self c.args.k c.args.key c.in_ok-old.ensures.updates
