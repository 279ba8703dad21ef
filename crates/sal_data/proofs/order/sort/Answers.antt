use Rattle.std.proofs.Common.{rules}
use Rattle.std.specs.Ordering.{is_lt}
use Rattle.std.proofs.lemmas.Fn.{always_returns_same}
use Rattle.std.proofs.lemmas.List.Sorted.{ranks_by}
use Rattle.sal_types.specs.declared.row.Row.{Row}
use Rattle.sal_types.specs.Order.{path_cmp, path_cmp-IsTotalOrder}
use Rattle.sal_data.proofs.SortedRows.{in_order-stable}
use Rattle.sal_data.proofs.order.sort.Goals as goal

pub returns : goal.returns
returns c =
    in_order-stable _ _ (c.sort_by.ensures.stable (λ a b. is_lt (path_cmp a.path b.path)) (ranks_by path_cmp-IsTotalOrder (λ (r : Row). r.path)) (always_returns_same _ _ _ (λ a r f k. search rules)))
