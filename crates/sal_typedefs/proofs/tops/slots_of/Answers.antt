use Rattle.sal_typedefs.specs.Opened.{world_of}
use Rattle.sal_typedefs.proofs.OpenedLists.{top-kept}
use Rattle.sal_typedefs.proofs.tops.slots_of.Goals as goal

pub returns : goal.returns
returns c k stmt at =
    let means = c.args.means.now in
    let scope = c.scope_over-scope in
    c.last_slots.ensures (world_of means) c.args.number c.args.stmt.now
    (top-kept scope.result c.enter.new.self means.typedefs.now means.ranks.now c.args.number c.args.stmt.now c.into_kept.result.items c.in_ok-enter.ensures scope.ensures.modules scope.ensures.ranks scope.ensures.number
    scope.ensures.around c.into_kept.ensures) k stmt at
