-- As many as there are modules, and all empty.
use Rattle.std.proofs.Common.{◌≡◌, ℕ, length, None, List}
use Rattle.std.specs.Prelude.{All}
use Rattle.std.specs.BTreeMap.{get}
use Rattle.std.specs.Ordering.{nat_cmp}
use Rattle.sal_typedefs.specs.Settled.{Slots}
use Rattle.sal_typedefs.proofs.tops.empty_slots.Given as goal

abbrev pub invariant-loop-stmt : goal.invariant-loop-stmt
invariant-loop-stmt l = (length l.kept.items ≡ l._stmt-index) × All (λ (s : Slots). (q : ℕ) → get nat_cmp s q ≡ None) l.kept.items
