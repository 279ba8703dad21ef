use Rattle.std.proofs.Common.{◌≡◌, ℕ, [], length, get_or}
use Rattle.sal_grouping.specs.Indexes.{lists}
use Rattle.sal_grouping.proofs.index.empty_lists.Given as goal

abbrev pub invariant-loop-i : goal.invariant-loop-i
invariant-loop-i l = record { count : length (lists l.all.items) ≡ l.i; each : (b : ℕ) → get_or (lists l.all.items) b [] ≡ [] }
