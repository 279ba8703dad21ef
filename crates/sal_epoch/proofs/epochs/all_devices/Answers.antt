-- One domain after another.
use Rattle.std.proofs.Common.{rules, ◌<◌, ◌≤◌, ◌-◌, ◌++◌, List, length, ap, sym, subst, ◌∙◌, arith}
use Rattle.sal_history.specs.declared.opening.Device.{Device}
use Rattle.sal_hub.specs.Openings.{AreClosedDevices, world_of}
use Rattle.sal_hub.specs.Epochs.{domains_from}
use Rattle.sal_epoch.specs.Epochs.{copied_domain, copied_world}
use Rattle.sal_epoch.proofs.Next.{next-end, next-start, next-step}
use Rattle.sal_epoch.proofs.epochs.all_devices.Goals as goal

pub loop-index-init : goal.loop-index-init
loop-index-init c = record {
  world = λ rules. ap (λ (ds : List Device). world_of rules ds ++ domains_from (copied_domain rules c.args.hub.now) 0 (length c.args.hub.now.world - 0)) c.new-devices.ensures.items ∙ next-start rules c.args.hub.now;
  closed = subst AreClosedDevices (sym c.new-devices.ensures.items) tt;
}

pub loop-index-preserved : goal.loop-index-preserved
loop-index-preserved c =
    let l = c.loop-index in
    let all = c.domains-index-end.ensures.all in
    let below : l.index < length c.domains-index-end.result.now = search rules in
    let inside : l.index < length c.args.hub.now.world = omega (arith, below, all) in
    let added = c.in_ok-add_next.ensures in record {
      world = λ rules. next-step rules c.args.hub.now (world_of rules l.devices.items) _ (copied_world rules c.args.hub.now) l.index inside (added.next rules) (l.invariant.world rules);
      closed = added.closed l.invariant.closed;
    }

pub returns : goal.returns
returns c =
    let l = c.loop-index in
    let all = c.domains-index-end.ensures.all in
    let past : length c.domains-index-end.result.now ≤ l.index = search rules in
    let end : length c.args.hub.now.world ≤ l.index = omega (arith, past, all) in record {
      world = λ rules. next-end rules c.args.hub.now (world_of rules l.devices.items) (copied_world rules c.args.hub.now) l.index end (l.invariant.world rules);
      closed = l.invariant.closed;
    }
