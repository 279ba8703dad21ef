use Rattle.std.proofs.Common.{◌<◌, [], length, refl, arith}
use Rattle.std.proofs.lemmas.Grind.{common_steps}
use Rattle.sal_grouping.proofs.RoundLists.{tries-past}
use Rattle.sal_grouping.proofs.augments.round.Goals as goal

pub returns-then-not-all-clause-many : goal.returns-then-not-all-clause-many
returns-then-not-all-clause-many c =
    let a = c.args in
    let within : c.loop-k.k-index < length a.left.now = grind (arith, common_steps) in
    tries-past a.modules.now a.plan.now.rows.items a.plan.now.named.items (a.nodes.now.items, []) a.left.now c.loop-k.k-index _ within refl
    (c.loop-k.nodes.items, c.loop-k.still.items) c.loop-k.invariant.so_far (c.in_ok-all.ensures.many c.if-not-all.true)
