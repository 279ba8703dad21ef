use Rattle.std.proofs.Common.{◌≡◌, List, sym, subst, ap, ◌∙◌}
use Rattle.sal_history.specs.declared.opening.Device.{Device}
use Rattle.sal_history.specs.World.{Domain, AreVersions}
use Rattle.sal_hub.specs.Openings.{AreClosedDevices, world_of}
use Rattle.sal_resume.specs.Resumed.{world_held}
use Rattle.sal_resume.proofs.Opened.{world-is, closed-device, versions-held, opened-so, whole-so, leader-so}
use Rattle.sal_resume.proofs.resuming.resume.Goals as goal

pub open-requires-clause-closed : goal.open-requires-clause-closed
open-requires-clause-closed c =
    let d = c.in_ok-device in
    subst (λ (ds : List Device). AreClosedDevices ds) (sym c.in_ok-devices.ensures) (closed-device c.args.rules c.args.follower d.device d.ensures.schema d.ensures.upgrades d.ensures.opening d.ensures.trees)

pub open-requires-clause-versions : goal.open-requires-clause-versions
open-requires-clause-versions c =
    let d = c.in_ok-device in
    subst (λ (ds : List Device). AreVersions (world_of c.args.rules ds)) (sym c.in_ok-devices.ensures)
    (subst (λ (world : List Domain). AreVersions world) (sym (world-is c.args.rules c.args.follower d.device d.ensures.schema d.ensures.upgrades d.ensures.opening)) (versions-held c.args.rules c.args.follower))

pub returns : goal.returns
returns c =
    let d = c.in_ok-device in
    let world : world_of c.args.rules c.in_ok-devices.devices.items ≡ world_held c.args.rules c.args.follower =
    ap (world_of c.args.rules) c.in_ok-devices.ensures ∙ world-is c.args.rules c.args.follower d.device d.ensures.schema d.ensures.upgrades d.ensures.opening in
    let told = opened-so c.args.rules c.args.follower (world_of c.args.rules c.in_ok-devices.devices.items) c.open.result world c.open.ensures in record {
      opened = told;
      whole = whole-so c.args.rules c.args.follower c.open.result d.ensures.trees told;
      leader = leader-so c.args.rules c.args.follower c.open.result told;
    }
