use Rattle.std.proofs.Common.{◌≡◌, ◌<◌, ℕ, [], length, take, get_or}
use Rattle.sal_grouping.specs.Rows.{all_inside}
use Rattle.sal_grouping.specs.Indexes.{lists}
use Rattle.sal_grouping.proofs.index.inside_of.Given as goal

abbrev pub invariant-loop-k : goal.invariant-loop-k
invariant-loop-k l =
    record {
      count : length (lists l.all.items) ≡ length l.rows;
      each : (b : ℕ) → b < length l.rows → get_or (lists l.all.items) b [] ≡ all_inside (take l.k l.rows) b;
    }
