-- The statements that a type statement depends on, in order.
use Rattle.std.specs.Prelude.{ℕ, zero, suc, Bool, List, [], ◌∷◌, ◌++◌, length, map}
use Rattle.std.specs.List.{flat_map, list_any}
use Rattle.sal_stmt.specs.declared.stmt.Stmt.{Stmt}
use Rattle.sal_typedefs.specs.declared.walk.Way.{Way}
use Rattle.sal_typedefs.specs.declared.walk.Gone.{Gone}
use Rattle.sal_typedefs.specs.Scopes.{Site}
use Rattle.sal_typedefs.specs.Names.{rests_on, is_of}
use Rattle.sal_typedefs.specs.Spots.{site_of}

-- a statement, and the number of its direct dependencies, which follow it
pub record Node : Type 0 where
  pub site : Site
  pub below : ℕ

-- a statement before those that it depends on, in at most `steps` steps
unfoldable pub nodes : ℕ → List Stmt → Site → List Node
nodes zero modules site = record { site = site; below = 0 } ∷ []
nodes (suc steps) modules site = record { site = site; below = length (rests_on modules site) } ∷ flat_map (nodes steps modules) (rests_on modules site)

-- the pending statements, the last one first
abbrev pub left : List Stmt → List Way → List Node
left modules [] = []
left modules (way ∷ ways) = left modules ways ++ nodes way.steps modules (site_of way.spot)

abbrev pub node_of : Gone → Node
node_of gone = record { site = site_of gone.spot; below = gone.below }

-- whether one of the pending statements names this typedef
abbrev pub left_names : List Stmt → Site → List Way → Bool
left_names modules typedef ways = list_any (is_of modules typedef) (map (λ (n : Node). n.site) (left modules ways))
