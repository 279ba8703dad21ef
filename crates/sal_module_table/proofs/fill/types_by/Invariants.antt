-- The types of those with lower ranks.
use Rattle.std.proofs.Common.{◌≡◌, ℕ, ◌<◌, length}
use Rattle.sal_grouping.specs.Indexes.{lists}
use Rattle.sal_module_table.specs.Orders.{rank_of}
use Rattle.sal_module_table.specs.Filled.{type_at, type_of_node}
use Rattle.sal_module_table.proofs.fill.types_by.Given as goal

abbrev pub invariant-loop-r : goal.invariant-loop-r
invariant-loop-r l =
    record {
      count : length l.all.items ≡ length l.edges;
      known : (j : ℕ) → j < length (lists l.edges) → rank_of l.order.ranks.items j < l.r → type_at l.all.items j ≡ type_of_node l.own (lists l.edges) j;
    }
