use Rattle.std.proofs.Common.{◌∙◌}
use Rattle.sal_typedefs.proofs.WalkLists.{push-one}
use Rattle.sal_typedefs.proofs.walk.push_all.Goals as goal

pub spots-preserved-in-Continue-1 : goal.spots-preserved-in-Continue-1
spots-preserved-in-Continue-1 c modules =
    c.spots.invariant modules
    ∙ push-one modules c.args.steps c.spots.spots.items c.pop.new.self.items c.in-Some.spot c.spots.ways.items c.append.new.list.items c.in-Some.ensures.items c.in_ok-append.ensures
