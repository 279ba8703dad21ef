-- The first typedef of each name among those so far.
use Rattle.std.proofs.Common.{◌≡◌, ℕ, List, take}
use Rattle.std.specs.List.{position_from}
use Rattle.sal_typedefs.specs.Blocks.{get_by_name}
use Rattle.sal_typedefs.specs.Scopes.{is_typedef_of}
use Rattle.sal_typedefs.proofs.block.typedefs_in.Given as goal

abbrev pub invariant-loop-k : goal.invariant-loop-k
invariant-loop-k l = (q : List ℕ) → get_by_name l.map q ≡ position_from (is_typedef_of q) 0 (take l.k l.subs)
