-- The first ones are decided, and the remaining ones will be.
use Rattle.std.proofs.Common.{◌≡◌, ◌≤◌, ◌-◌, length}
use Rattle.sal_hub.specs.PipelineView.{AllKept, Decides, HasGrown, queue_of}
use Rattle.sal_hub.proofs.pipeline.Pipeline.decide_upto.Given as goal

abbrev pub invariant-loop-index : goal.invariant-loop-index
invariant-loop-index l = record {
  count : length l.self.outcomes.items ≡ l.index;
  bound : l.index - length l.initial.self.outcomes.items ≤ l.upto - length l.initial.self.outcomes.items;
  kept : AllKept l.self.domains.items;
  decided : Decides (queue_of l.initial.self) (l.index - length l.initial.self.outcomes.items) (queue_of l.self);
  grown : HasGrown (queue_of l.initial.self) (queue_of l.self);
}
