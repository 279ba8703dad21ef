use Rattle.std.proofs.Common.{◌≡◌, ◌<◌, ℕ, List, length, take, get_or}
use Rattle.std.specs.BTreeMap.{get_by_text}
use Rattle.sal_grouping.specs.Rows.{first_defined}
use Rattle.sal_grouping.specs.Indexes.{Names}
use Rattle.sal_grouping.proofs.index.firsts_of.Given as goal

abbrev pub invariant-loop-k : goal.invariant-loop-k
invariant-loop-k l =
    record {
      count : length l.maps.items ≡ length l.rows;
      each : (b : ℕ) (d : Names) → b < length l.rows → (q : List ℕ) → get_by_text (get_or l.maps.items b d) q ≡ first_defined (take l.k l.rows) l.keyword b q;
    }
