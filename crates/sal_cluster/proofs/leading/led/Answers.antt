-- The trees are those of the followers.
use Rattle.std.proofs.Common.{◌≤◌, length, ap, sym, ◌∙◌, subst}
use Rattle.std.specs.Option.{is_some}
use Rattle.sal_cluster.specs.StandBys.{devices_given, follower_at, opening_held}
use Rattle.sal_cluster.proofs.Followed.{few_followed, some_followed}
use Rattle.sal_cluster.proofs.leading.led.Goals as goal

pub openings_of-requires : goal.openings_of-requires
openings_of-requires c = subst (λ fs. 1 ≤ length fs) (sym c.all.ensures) (some_followed c.args.it.now c.requires.many)

pub led_with-requires-clause-few : goal.led_with-requires-clause-few
led_with-requires-clause-few c = few_followed c.args.it.now c.requires.many

pub led_with-requires-clause-frame : goal.led_with-requires-clause-frame
led_with-requires-clause-frame c = ap is_some c.requires.number

pub led_with-requires-clause-own : goal.led_with-requires-clause-own
led_with-requires-clause-own c = c.in-Ok.ensures.own ∙ ap (λ fs. opening_held (follower_at fs 0)) c.all.ensures

pub led_with-requires-clause-devices : goal.led_with-requires-clause-devices
led_with-requires-clause-devices c = c.in-Ok.ensures.devices ∙ ap devices_given c.all.ensures
