-- The children so far and those among the nodes that are left are all children.
use Rattle.std.proofs.Common.{◌≡◌, ℕ, ◌<◌, ◌++◌, length, drop, get_or, Some, None}
use Rattle.std.specs.declared.alloc.Global.{Global}
use Rattle.std.specs.declared.vec.Vec.{Vec}
use Rattle.sal_schema.specs.Table.{children_in}
use Rattle.sal_schema.proofs.parts.children_of.Given as goal

abbrev pub invariant-loop-i : goal.invariant-loop-i
invariant-loop-i l = record {
  top : l.top.items ++ children_in l.i (drop l.i l.nodes) None ≡ children_in 0 l.nodes None;
  count : length l.below.items ≡ length l.nodes;
  below : (k : ℕ) (d : Vec ℕ Global) → k < length l.nodes → (get_or l.below.items k d).items ++ children_in l.i (drop l.i l.nodes) (Some k) ≡ children_in 0 l.nodes (Some k);
}
