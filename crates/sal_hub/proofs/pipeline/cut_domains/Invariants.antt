-- The domains so far are cut.
use Rattle.std.proofs.Common.{◌≡◌, map, take}
use Rattle.sal_hub.specs.PipelineView.{AllKept, cut_all, shown}
use Rattle.sal_hub.proofs.pipeline.cut_domains.Given as goal

abbrev pub invariant-loop-i : goal.invariant-loop-i
invariant-loop-i l = record {
  kept : AllKept l.domains;
  cut : map shown l.domains ≡ cut_all (map shown l.initial.domains) (take l.i l.counts);
}
