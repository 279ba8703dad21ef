-- Numbers before the lower bound are below the limit, and the one at the upper bound is not.
use Rattle.std.proofs.Common.{◌≡◌, ◌-◌, ◌<◌, ◌≤◌, get_or}
use Rattle.sal_tree.specs.declared.commit.Commit.{Commit}
use Rattle.sal_graft.proofs.naming.first_from.Given as goal

abbrev pub invariant-loop-low : goal.invariant-loop-low
invariant-loop-low l = record {
  from : l.initial.low ≤ l.low;
  low : l.low ≤ l.high;
  high : l.high ≤ l.initial.high;
  before : (c : Commit) → l.initial.low < l.low → c ≡ get_or l.commits (l.low - 1) c → c.receipt < l.limit;
  here : (c : Commit) → l.high < l.initial.high → c ≡ get_or l.commits l.high c → l.limit ≤ c.receipt;
}

abbrev pub decreases-loop-low : goal.decreases-loop-low
decreases-loop-low l = l.high - l.low
