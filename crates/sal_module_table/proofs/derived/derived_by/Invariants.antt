-- The lists of those with lower ranks.
use Rattle.std.proofs.Common.{◌≡◌, ℕ, ◌<◌, length, get_or, []}
use Rattle.sal_grouping.specs.Indexes.{lists}
use Rattle.sal_module_table.specs.Orders.{rows, rank_of}
use Rattle.sal_module_table.specs.Identities.{derived_from}
use Rattle.sal_module_table.proofs.derived.derived_by.Given as goal

abbrev pub invariant-loop-r : goal.invariant-loop-r
invariant-loop-r l =
    record {
      none : l.gathered ≡ [];
      count : length (rows l.all.items) ≡ length (lists l.edges);
      known : (j : ℕ) → j < length (lists l.edges) → rank_of l.order.ranks.items j < l.r → get_or (rows l.all.items) j [] ≡ derived_from (lists l.edges) j;
    }
