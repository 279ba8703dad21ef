-- The newest trees break no rule.
use Rattle.std.proofs.Common.{◌≡◌, ◌≤◌, ◌<◌, ◌-◌, length, get_or, arith}
use Rattle.std.proofs.lemmas.Grind.{common_steps}
use Rattle.sal_commit.proofs.Sounds.{AreSoundSince-at}
use Rattle.sal_commit.proofs.trees.breached.Goals as goal

pub first_breach-requires-clause-sound : goal.first_breach-requires-clause-sound
first_breach-requires-clause-sound c =
    let commits = c.args.domain.now.commits.items in
    let newest = c.index.result.now in
    let last = length commits - 1 in
    let short : last < length commits = omega (arith, c.requires.kept.opened) in
    let at : newest ≡ get_or commits last newest = grind (arith, common_steps) in
    let low : c.args.domain.now.since ≤ last = omega (arith, c.args.domain.now.reached) in
    AreSoundSince-at c.args.domain.now.since c.args.domain.now.schema.value c.args.domain.now.plan.schema.value commits last newest c.args.domain.now.planned low short at c.args.domain.now.sound
