-- The remaining elements to search.
use Rattle.std.proofs.Common.{◌≡◌, ◌-◌, drop}
use Rattle.sal_module.specs.Statements.{subs_of}
use Rattle.sal_module.specs.Places.{find_first, find_at}
use Rattle.sal_module.proofs.places.+find_anywhere.Given as goal

abbrev pub invariant-loop-sub : goal.invariant-loop-sub
invariant-loop-sub l = find_first (find_at (l.levels - 1) l.at) (subs_of l.stmt) ≡ find_first (find_at (l.levels - 1) l.at) (drop l.sub-index (subs_of l.stmt))
