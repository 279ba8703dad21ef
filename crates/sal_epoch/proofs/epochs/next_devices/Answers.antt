-- The newest trees break no rule, and each schema has one version.
use Rattle.std.proofs.Common.{◌≡◌, sym, subst}
use Rattle.std.specs.Prelude.{Vec}
use Rattle.std.specs.declared.alloc.Global.{Global}
use Rattle.std.proofs.lemmas.Result.{IfOk-weaker}
use Rattle.sal_rows.specs.declared.clash.Rules.{Rules}
use Rattle.sal_history.specs.declared.opening.Device.{Device}
use Rattle.sal_history.specs.World.{AreVersions}
use Rattle.sal_hub.specs.Openings.{world_of}
use Rattle.sal_epoch.specs.Epochs.{copied_world}
use Rattle.sal_epoch.proofs.Next.{next-versions, no-fault-of}
use Rattle.sal_epoch.proofs.epochs.next_devices.Goals as goal

pub returns : goal.returns
returns c =
    let known = c.args.hub.now in
    record {
      world = c.all_devices.ensures.world;
      closed = c.all_devices.ensures.closed;
      sound = λ stateless rules. no-fault-of rules known c.keeps_the_rules.ensures stateless;
      versions = IfOk-weaker c.all_devices.result (λ (ds : Vec Device Global). (rules : Rules) → world_of rules ds.items ≡ copied_world rules known) (λ (ds : Vec Device Global). (rules : Rules) → AreVersions (world_of rules ds.items))
          (λ ds same rules. subst AreVersions (sym (same rules)) (next-versions rules known)) c.all_devices.ensures.world;
    }
