-- The statements that are left come first.
use Rattle.std.proofs.Common.{◌≡◌, ◌++◌, List, length, map}
use Rattle.std.specs.List.{flat_map}
use Rattle.sal_stmt.specs.declared.stmt.Stmt.{Stmt}
use Rattle.sal_typedefs.specs.Spots.{site_of}
use Rattle.sal_typedefs.specs.Walks.{nodes, left}
use Rattle.sal_typedefs.proofs.walk.push_all.Given as goal

abbrev pub invariant-spots : goal.invariant-spots
invariant-spots l =
    (modules : List Stmt) → flat_map (nodes l.steps modules) (map site_of l.initial.spots.items) ++ left modules l.initial.ways.items
    ≡ flat_map (nodes l.steps modules) (map site_of l.spots.items) ++ left modules l.ways.items

abbrev pub decreases-spots : goal.decreases-spots
decreases-spots l = length l.spots.items
