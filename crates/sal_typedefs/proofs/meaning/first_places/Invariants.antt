-- The index of the first of each name among those so far.
use Rattle.std.proofs.Common.{◌≡◌, ℕ, List, take}
use Rattle.std.specs.List.{position_from}
use Rattle.sal_module.specs.Keywords.{same}
use Rattle.sal_typedefs.specs.Blocks.{get_by_name}
use Rattle.sal_typedefs.proofs.meaning.first_places.Given as goal

abbrev pub invariant-loop-i : goal.invariant-loop-i
invariant-loop-i l = (q : List ℕ) → get_by_name l.map q ≡ position_from (same q) 0 (take l.i l.names)
