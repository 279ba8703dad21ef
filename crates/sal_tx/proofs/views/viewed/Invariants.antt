-- The view so far is the base after the operations before the index.
use Rattle.std.proofs.Common.{take}
use Rattle.sal_tx.specs.Views.{IsSeen}
use Rattle.sal_tx.proofs.views.viewed.Given as goal

abbrev pub invariant-loop-op : goal.invariant-loop-op
invariant-loop-op l = IsSeen l.stamp (take l.op-index l.ops) l.base l.view
