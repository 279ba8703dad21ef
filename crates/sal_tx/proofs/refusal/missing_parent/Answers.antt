use Rattle.std.proofs.Common.{ap, take, ◌∙◌, Some}
use Rattle.std.specs.Prelude.{option_map}
use Rattle.sal_tx.specs.Walk.{missing_depth}
use Rattle.sal_tx.proofs.Walked.{missing_parent-walked}
use Rattle.sal_tx.proofs.refusal.missing_parent.Goals as goal

pub returns-clause-parent : goal.returns-clause-parent
returns-clause-parent c =
    ap (option_map (λ d. take d c.args.path.now))
    (c.missing_below.ensures.depth ∙ ap (λ t. missing_depth c.args.schema.now (Some t) c.steps.result.now) c.node.ensures.tree
    ∙ ap (missing_depth c.args.schema.now (Some c.args.tree.now)) c.steps.ensures.all)
    ∙ missing_parent-walked c.args.schema.now c.args.tree.now c.args.path.now c.node.ensures.whole.ordered
