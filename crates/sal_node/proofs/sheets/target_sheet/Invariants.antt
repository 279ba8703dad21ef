use Rattle.std.proofs.Common.{◌≡◌, ◌-◌, ◌<◌, ◌≤◌, true, false, length, get_or}
use Rattle.std.specs.declared.sync.Arc.{Arc}
use Rattle.std.specs.declared.alloc.Global.{Global}
use Rattle.sal_node.specs.declared.node.Sheet.{Sheet}
use Rattle.sal_node.specs.Shape.{sheet_after}
use Rattle.sal_node.proofs.sheets.target_sheet.Given as goal

abbrev pub invariant-loop-high : goal.invariant-loop-high
invariant-loop-high l = record {
  low : l.low < l.high;
  high : l.high ≤ length l.sheets;
  before : (d : Arc Sheet Global) → 0 < l.low → sheet_after l.step (get_or l.sheets l.low d).value.pages.items ≡ false;
  after : (d : Arc Sheet Global) → l.high < length l.sheets → sheet_after l.step (get_or l.sheets l.high d).value.pages.items ≡ true;
}

abbrev pub decreases-loop-high : goal.decreases-loop-high
decreases-loop-high l = l.high - l.low
