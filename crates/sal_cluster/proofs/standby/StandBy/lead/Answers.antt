-- The leader of the number.
use Rattle.std.proofs.Common.{◌≤◌, ◌<◌, length, ap, sym, ◌∙◌, subst, arith}
use Rattle.sal_cluster.specs.declared.standby.Standing.{Standing}
use Rattle.sal_cluster.specs.StandBys.{Leads, follower_at}
use Rattle.sal_cluster.proofs.Followed.{some_followed}
use Rattle.sal_cluster.proofs.standby.StandBy.lead.Goals as goal

pub number-requires : goal.number-requires
number-requires c = subst (λ (s : Standing). 0 < length s.followers.items) c.self.view_is (some_followed c.self.inside.standing c.self.invariant)

pub led-requires-clause-number : goal.led-requires-clause-number
led-requires-clause-number c = ap (λ (s : Standing). (follower_at s.followers.items 0).held.version) c.self.view_is ∙ sym c.number.ensures ∙ c.in-Some.is

pub returns-in-Some : goal.returns-in-Some
returns-in-Some c = subst (λ (s : Standing). Leads s c.args.version c.led.result) c.self.view_is c.led.ensures
