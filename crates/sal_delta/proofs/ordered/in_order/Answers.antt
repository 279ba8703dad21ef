use Rattle.std.proofs.Common.{◌≡◌, List, Option, subst}
use Rattle.std.specs.Prelude.{IfOk}
use Rattle.sal_types.specs.declared.value.Step.{Step}
use Rattle.sal_types.specs.declared.value.Cell.{Cell}
use Rattle.sal_delta.specs.Ordered.{marks}
use Rattle.sal_delta.proofs.ordered.in_order.Goals as goal

pub returns : goal.returns
returns c = subst (λ (ordered : List (List Step × (Option Cell × Option Cell))). IfOk c.settled.result (λ v. marks v.items ≡ ordered)) c.in_ok-sort.ensures c.settled.ensures
