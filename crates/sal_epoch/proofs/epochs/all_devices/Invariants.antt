-- The devices so far are those of the first domains.
use Rattle.std.proofs.Common.{◌≡◌, ◌++◌, ◌-◌, length}
use Rattle.sal_rows.specs.declared.clash.Rules.{Rules}
use Rattle.sal_hub.specs.Openings.{AreClosedDevices, world_of}
use Rattle.sal_hub.specs.Epochs.{domains_from}
use Rattle.sal_epoch.specs.Epochs.{copied_domain, copied_world}
use Rattle.sal_epoch.proofs.epochs.all_devices.Given as goal

abbrev pub invariant-loop-index : goal.invariant-loop-index
invariant-loop-index l = record {
  world : (rules : Rules) → world_of rules l.devices.items ++ domains_from (copied_domain rules l.hub) l.index (length l.hub.world - l.index) ≡ copied_world rules l.hub;
  closed : AreClosedDevices l.devices.items;
}
