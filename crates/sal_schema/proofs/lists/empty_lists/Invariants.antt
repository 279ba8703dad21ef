-- The lists so far are empty.
use Rattle.std.proofs.Common.{◌≡◌, ℕ, ◌<◌, length, get_or, []}
use Rattle.std.specs.declared.alloc.Global.{Global}
use Rattle.std.specs.declared.vec.Vec.{Vec}
use Rattle.sal_schema.proofs.lists.empty_lists.Given as goal

abbrev pub invariant-loop-made : goal.invariant-loop-made
invariant-loop-made l = record {
  count : length l.lists.items ≡ l.made;
  empty : (k : ℕ) (d : Vec ℕ Global) → k < l.made → (get_or l.lists.items k d).items ≡ [];
}
