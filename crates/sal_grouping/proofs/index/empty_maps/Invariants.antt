use Rattle.std.proofs.Common.{◌≡◌, ◌<◌, ℕ, List, None, length, get_or}
use Rattle.std.specs.BTreeMap.{get_by_text}
use Rattle.sal_grouping.specs.Indexes.{Names}
use Rattle.sal_grouping.proofs.index.empty_maps.Given as goal

abbrev pub invariant-loop-i : goal.invariant-loop-i
invariant-loop-i l = record { count : length l.maps.items ≡ l.i; each : (b : ℕ) (d : Names) → b < l.i → (q : List ℕ) → get_by_text (get_or l.maps.items b d) q ≡ None }
