use Rattle.std.proofs.Common.{◌≡◌, ◌-◌, ◌<◌, ◌≤◌, true, false, length, get_or}
use Rattle.std.specs.declared.sync.Arc.{Arc}
use Rattle.std.specs.declared.alloc.Global.{Global}
use Rattle.sal_node.specs.declared.node.Page.{Page}
use Rattle.sal_node.specs.Shape.{begins_after}
use Rattle.sal_node.proofs.pages.target.Given as goal

abbrev pub invariant-loop-high : goal.invariant-loop-high
invariant-loop-high l = record {
  low : l.low < l.high;
  high : l.high ≤ length l.pages;
  before : (d : Arc Page Global) → 0 < l.low → begins_after l.step (get_or l.pages l.low d).value.children.items ≡ false;
  after : (d : Arc Page Global) → l.high < length l.pages → begins_after l.step (get_or l.pages l.high d).value.children.items ≡ true;
}

abbrev pub decreases-loop-high : goal.decreases-loop-high
decreases-loop-high l = l.high - l.low
