use Rattle.sal_module_table.proofs.PlaceMaps.{put-over}
use Rattle.sal_module_table.proofs.typed.put.Goals as goal

pub returns : goal.returns
returns c q = put-over c.args.map.now c.insert.new.self c.args.k c.args.place c.in_ok-insert.ensures.updates q
