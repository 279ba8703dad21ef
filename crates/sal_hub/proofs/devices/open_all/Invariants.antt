-- The devices so far are opened.
use Rattle.std.proofs.Common.{◌≡◌, ◌++◌, drop, map}
use Rattle.sal_hub.specs.PipelineView.{AllKept, shown}
use Rattle.sal_hub.specs.Opened.{shown_from}
use Rattle.sal_hub.specs.Openings.{fault_from, fault_of, world_of}
use Rattle.sal_hub.proofs.devices.open_all.Given as goal

abbrev pub invariant-loop-i : goal.invariant-loop-i
invariant-loop-i l = record {
  fault : fault_from l.i (world_of l.rules (drop l.i l.devices)) ≡ fault_of (world_of l.rules l.devices);
  kept : AllKept l.domains.items;
  shown_all : map shown l.domains.items ++ shown_from l.rules l.i (drop l.i l.devices) ≡ shown_from l.rules 0 l.devices;
}
