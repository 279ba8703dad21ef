-- Each node has the stamp 0.
use Rattle.std.proofs.Common.{◌≤◌, arith}
use Rattle.sal_commit.proofs.Following.{up_to-stamped}
use Rattle.sal_commit.proofs.opening.opened.Goals as goal

pub returns-clause-stamps : goal.returns-clause-stamps
returns-clause-stamps c =
    let low : 0 ≤ 1 = omega arith in
    (up_to-stamped 0 1 c.in_ok-config.config low c.in_ok-config.ensures.stamps, up_to-stamped 0 1 c.in_ok-oper.oper low c.in_ok-oper.ensures.stamps)
