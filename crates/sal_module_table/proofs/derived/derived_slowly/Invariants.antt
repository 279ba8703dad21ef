-- The lists so far.
use Rattle.std.proofs.Common.{◌≡◌, ℕ, ◌<◌, length, get_or, []}
use Rattle.sal_grouping.specs.Indexes.{lists}
use Rattle.sal_module_table.specs.Orders.{rows}
use Rattle.sal_module_table.specs.Identities.{derived_from}
use Rattle.sal_module_table.proofs.derived.derived_slowly.Given as goal

abbrev pub invariant-loop-i : goal.invariant-loop-i
invariant-loop-i l =
    record {
      count : length (rows l.all.items) ≡ l.i;
      known : (k : ℕ) → k < l.i → get_or (rows l.all.items) k [] ≡ derived_from (lists l.edges) k;
    }
