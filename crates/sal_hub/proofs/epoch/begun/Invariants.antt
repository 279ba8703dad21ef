-- The domains so far have begun anew.
use Rattle.std.proofs.Common.{◌≡◌, map}
use Rattle.sal_hub.specs.PipelineView.{AllKept, shown}
use Rattle.sal_hub.proofs.NextEpoch.{begun_upto}
use Rattle.sal_hub.proofs.epoch.begun.Given as goal

abbrev pub invariant-loop-i : goal.invariant-loop-i
invariant-loop-i l = record {
  kept : AllKept l.domains.items;
  begun : map shown l.domains.items ≡ begun_upto l.rules l.i (map shown l.fn.domains.items);
}
