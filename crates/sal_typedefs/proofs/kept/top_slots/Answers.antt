use Rattle.std.proofs.Common.{◌<◌, length, arith}
use Rattle.std.proofs.lemmas.Grind.{common_steps}
use Rattle.sal_typedefs.proofs.SettledLists.{part-list}
use Rattle.sal_typedefs.proofs.kept.top_slots.Goals as goal

pub returns : goal.returns
returns c =
    let lt : c.args.number < length c.args.tops.now = grind (arith, common_steps) in
    part-list c.args.tops.now c.args.number lt
