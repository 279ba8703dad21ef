-- The blocks that are left.
use Rattle.std.proofs.Common.{◌≡◌, ◌≤◌, take, length}
use Rattle.std.specs.Prelude.{reverse}
use Rattle.sal_typedefs.specs.Scopes.{closest}
use Rattle.sal_typedefs.specs.Settled.{World, AreKept}
use Rattle.sal_typedefs.proofs.kept.settled_outer.Given as goal

abbrev pub invariant-closest : goal.invariant-closest
invariant-closest l =
    (l.n ≤ length l.blocks) × (l.n ≤ length l.kept) × (closest l.number l.name (reverse l.blocks) ≡ closest l.number l.name (reverse (take l.n l.blocks)))
    × ((w : World) → AreKept w l.number (reverse l.blocks) (reverse l.kept) → AreKept w l.number (reverse (take l.n l.blocks)) (reverse (take l.n l.kept)))

abbrev pub decreases-closest : goal.decreases-closest
decreases-closest l = l.n
