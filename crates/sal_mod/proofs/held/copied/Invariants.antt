-- The operations so far are copied.
use Rattle.std.proofs.Common.{◌≡◌, take}
use Rattle.sal_mod.proofs.held.copied.Given as goal

abbrev pub invariant-loop-op : goal.invariant-loop-op
invariant-loop-op l = l.list.items ≡ take l.op-index l.ops
