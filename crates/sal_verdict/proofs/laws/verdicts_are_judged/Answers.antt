use Rattle.sal_verdict.proofs.Judging.{verdicts-are-judged}
use Rattle.sal_verdict.proofs.laws.verdicts_are_judged.Goals as goal

pub returns : goal.returns
returns c = verdicts-are-judged c.orders_are_told.ensures c.differences_end_lines.ensures c.plays_follow_their_order.ensures
