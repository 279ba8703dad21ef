-- Nothing is given for a device.
use Rattle.std.proofs.Common.{List, Option, ap, subst}
use Rattle.sal_history.specs.declared.opening.Opening.{Opening}
use Rattle.sal_client.specs.Lists.{begun_with}
use Rattle.sal_script.specs.Reading.{parts}
use Rattle.sal_prepare.specs.Resumed.{devices_fit, resumed_with}
use Rattle.sal_prepare.specs.Scripted.{Comes}
use Rattle.sal_prepare.specs.declared.resumed.Ground.{Ground}
use Rattle.sal_prepare.proofs.resumed.Ground.resume.Goals as goal

pub resume_with-requires-clause-devices : goal.resume_with-requires-clause-devices
resume_with-requires-clause-devices c = ap (devices_fit c.args.self.now.readers) c.new-devices.ensures.items

pub returns-clause-world : goal.returns-clause-world
returns-clause-world c =
    let g : Ground = c.args.self.now in
    subst (λ (given : List (Option Opening)). Comes (λ it. it.hub.world) (resumed_with g.script.rules (parts g.script).devices (begun_with c.args.version g.readers) c.args.opening given) c.resume_with.result) c.new-devices.ensures.items
    c.resume_with.ensures.world
