use Rattle.std.proofs.Common.{rules}
use Rattle.std.specs.Ordering.{is_lt}
use Rattle.std.proofs.lemmas.Fn.{always_returns_same}
use Rattle.sal_types.specs.Order.{path_cmp}
use Rattle.sal_delta.proofs.InOrder.{sorted-tested}
use Rattle.sal_delta.proofs.ordered.rises.Goals as goal

pub returns : goal.returns
returns c e = sorted-tested c.args.list.now _ (c.is_sorted_by.ensures.cases (λ a b. is_lt (path_cmp a.path b.path)) (always_returns_same _ _ _ (λ a r f k. search rules))) e
