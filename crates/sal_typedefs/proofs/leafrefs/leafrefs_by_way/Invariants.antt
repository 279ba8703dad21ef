-- The leafrefs so far, before those among the statements that are left.
use Rattle.std.proofs.Common.{◌≡◌, length, ◌++◌, map, filter}
use Rattle.sal_typedefs.specs.Names.{is_leafref, leafrefs_of}
use Rattle.sal_typedefs.specs.Spots.{site_of}
use Rattle.sal_typedefs.specs.Walks.{Node, left}
use Rattle.sal_typedefs.specs.Leafrefs.{leafref_seen, stmt_in}
use Rattle.sal_typedefs.proofs.leafrefs.leafrefs_by_way.Given as goal

abbrev pub invariant-ways : goal.invariant-ways
invariant-ways l =
    map leafref_seen l.all.items ++ map stmt_in (filter is_leafref (map (λ (n : Node). n.site) (left l.typedefs l.ways.items)))
    ≡ map stmt_in (leafrefs_of l.typedefs (site_of l.fn.spot))

abbrev pub decreases-ways : goal.decreases-ways
decreases-ways l = length (left l.typedefs l.ways.items)
