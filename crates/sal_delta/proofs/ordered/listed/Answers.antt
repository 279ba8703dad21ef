use Rattle.std.proofs.Common.{List, [], ◌∷◌, ◌++◌, Option, ap, sym, ◌∙◌}
use Rattle.sal_types.specs.declared.value.Step.{Step}
use Rattle.sal_types.specs.declared.value.Cell.{Cell}
use Rattle.sal_delta.specs.Ordered.{marks}
use Rattle.sal_delta.proofs.InOrder.{marks-append, marks_of-append}
use Rattle.sal_delta.proofs.ordered.listed.Goals as goal

pub loop-path-preserved : goal.loop-path-preserved
loop-path-preserved c =
    ap marks c.in_ok-push.ensures.items
    ∙ marks-append c.loop-path.list.items _
    ∙ ap (λ (es : List (List Step × (Option Cell × Option Cell))). es ++ (c.in-Some.path, (c.in-Some.cells.before, c.in-Some.cells.after)) ∷ []) c.loop-path.invariant
    ∙ sym (marks_of-append c.loop-path.yielded ((c.in-Some.path, c.in-Some.cells) ∷ []))
