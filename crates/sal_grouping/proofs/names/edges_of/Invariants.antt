-- The groupings that each one names, so far.
use Rattle.std.proofs.Common.{◌≡◌, ◌<◌, ℕ, [], length, take, get_or}
use Rattle.sal_grouping.specs.Indexes.{lists}
use Rattle.sal_grouping.proofs.Edges.{used_among}
use Rattle.sal_grouping.proofs.names.edges_of.Given as goal

abbrev pub invariant-loop-row : goal.invariant-loop-row
invariant-loop-row l =
    record {
      count : length (lists l.edges.items) ≡ length l.rows;
      each : (g : ℕ) → g < length l.rows → get_or (lists l.edges.items) g [] ≡ used_among l.modules l.rows g (take l.row-index l.rows);
    }
