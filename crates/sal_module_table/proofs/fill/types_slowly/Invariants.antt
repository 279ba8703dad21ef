-- The types so far.
use Rattle.std.proofs.Common.{◌≡◌, ℕ, ◌<◌, length}
use Rattle.sal_grouping.specs.Indexes.{lists}
use Rattle.sal_module_table.specs.Filled.{type_at, type_of_node}
use Rattle.sal_module_table.proofs.fill.types_slowly.Given as goal

abbrev pub invariant-loop-k : goal.invariant-loop-k
invariant-loop-k l =
    record {
      count : length l.all.items ≡ l.k;
      known : (j : ℕ) → j < l.k → type_at l.all.items j ≡ type_of_node l.own (lists l.edges) j;
    }
