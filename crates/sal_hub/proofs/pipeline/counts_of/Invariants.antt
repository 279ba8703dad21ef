-- The domains so far are counted.
use Rattle.std.proofs.Common.{◌≡◌, map, take}
use Rattle.sal_hub.specs.PipelineView.{counts_of, shown}
use Rattle.sal_hub.proofs.pipeline.counts_of.Given as goal

abbrev pub invariant-loop-domain : goal.invariant-loop-domain
invariant-loop-domain l = l.counts.items ≡ counts_of (map shown (take l.domain-index l.domains))
