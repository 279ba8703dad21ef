-- It goes on with the trees and the numbers.
use Rattle.std.proofs.Common.{◌≡◌, ◌&&◌, ℕ, Ok, refl, ap, sym, ◌∙◌, subst}
use Rattle.std.proofs.lemmas.Bool.{and_parts}
use Rattle.sal_client.specs.Lists.{begun_with}
use Rattle.sal_script.specs.Reading.{parts}
use Rattle.sal_prepare.specs.Resumed.{are_of_version, devices_fit, resumed_with}
use Rattle.sal_prepare.specs.Scripted.{IsStatusOf}
use Rattle.sal_cluster.specs.StandBys.{follower_at, number_held, opening_held, world_led}
use Rattle.sal_cluster.proofs.Followed.{none_of}
use Rattle.sal_cluster.proofs.leading.led_with.Goals as goal

pub returns-then-not-do_fit : goal.returns-then-not-do_fit
returns-then-not-do_fit c =
    let readers = c.args.it.now.ground.readers in
    (λ i. are_of_version readers c.args.version (sym c.requires.own i) && devices_fit readers (sym c.requires.devices i)) ∙ sym c.do_fit.ensures ∙ c.if-not-do_fit.true

pub led_over-requires-clause-own : goal.led_over-requires-clause-own
led_over-requires-clause-own c =
    (and_parts (are_of_version c.args.it.now.ground.readers c.args.version c.args.openings.own) (devices_fit c.args.it.now.ground.readers c.args.openings.devices.items) (sym c.do_fit.ensures ∙ c.if-not-do_fit.false)).0

pub led_over-requires-clause-devices : goal.led_over-requires-clause-devices
led_over-requires-clause-devices c =
    (and_parts (are_of_version c.args.it.now.ground.readers c.args.version c.args.openings.own) (devices_fit c.args.it.now.ground.readers c.args.openings.devices.items) (sym c.do_fit.ensures ∙ c.if-not-do_fit.false)).1

pub returns-in-Ok : goal.returns-in-Ok
returns-in-Ok c =
    let it = c.args.it.now in
    let bases : (n : ℕ) → _ = λ n. c.bases_of.ensures n ∙ ap (λ fs. number_held (follower_at fs n)) c.all.ensures in
    let same : resumed_with it.ground.script.rules (parts it.ground.script).devices (begun_with c.args.version it.ground.readers) c.args.openings.own c.args.openings.devices.items ≡ world_led it c.args.version =
    λ i. resumed_with it.ground.script.rules (parts it.ground.script).devices (begun_with c.args.version it.ground.readers) (c.requires.own i) (c.requires.devices i) in
    record {
      some = none_of (follower_at it.followers.items 0).held.version _ c.requires.frame (bases 0);
      bases = bases;
      version = refl;
      world = sym same ∙ c.in-Ok.ensures.world;
      begun = c.in-Ok.ensures.begun;
    }

pub returns-in-Err : goal.returns-in-Err
returns-in-Err c =
    let it = c.args.it.now in
    let same : resumed_with it.ground.script.rules (parts it.ground.script).devices (begun_with c.args.version it.ground.readers) c.args.openings.own c.args.openings.devices.items ≡ world_led it c.args.version =
    λ i. resumed_with it.ground.script.rules (parts it.ground.script).devices (begun_with c.args.version it.ground.readers) (c.requires.own i) (c.requires.devices i) in
    subst (λ w. IsStatusOf w c.in-Err.status) same c.in-Err.ensures.world
