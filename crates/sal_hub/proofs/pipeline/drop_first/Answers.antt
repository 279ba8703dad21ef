-- One more went.
use Rattle.std.proofs.Common.{List, drop, ap, ◌∙◌}
use Rattle.std.proofs.lemmas.List.{drop-drop}
use Rattle.sal_tx.specs.declared.tx.Submission.{Submission}
use Rattle.sal_hub.proofs.pipeline.drop_first.Goals as goal

pub loop-preserved : goal.loop-preserved
loop-preserved c = c.pop_front.ensures.rest ∙ ap (λ (ss : List Submission). drop 1 ss) c.loop.invariant ∙ drop-drop 1 c.loop.counter c.args.waiting.now.items
