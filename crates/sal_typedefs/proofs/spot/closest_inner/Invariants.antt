-- The blocks that are left.
use Rattle.std.proofs.Common.{◌≡◌, ◌≤◌, take, length}
use Rattle.std.specs.Prelude.{reverse}
use Rattle.sal_typedefs.specs.Scopes.{closest}
use Rattle.sal_typedefs.proofs.spot.closest_inner.Given as goal

abbrev pub invariant-closest : goal.invariant-closest
invariant-closest l = (l.n ≤ length l.list) × (closest l.number l.name (reverse l.list) ≡ closest l.number l.name (reverse (take l.n l.list)))

abbrev pub decreases-closest : goal.decreases-closest
decreases-closest l = l.n
