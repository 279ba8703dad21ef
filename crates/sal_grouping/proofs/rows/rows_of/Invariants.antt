-- The statements of the modules so far.
use Rattle.std.proofs.Common.{◌≡◌, ◌<◌, ℕ, length, take, get_or}
use Rattle.sal_grouping.specs.Rows.{rows_of, top_of}
use Rattle.sal_grouping.proofs.rows.rows_of.Given as goal

abbrev pub invariant-loop-i : goal.invariant-loop-i
invariant-loop-i l =
    record {
      rows : l.rows.items ≡ rows_of (take l.i l.stmts);
      count : length l.tops.items ≡ l.i;
      tops : (m d : ℕ) → m < l.i → get_or l.tops.items m d ≡ top_of l.stmts m;
    }
