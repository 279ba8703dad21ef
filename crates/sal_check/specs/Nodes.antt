-- The same in a tree of nodes: how the walk over a tree finds its breaches.
use Rattle.std.specs.Prelude.{◌≡◌, ◌<◌, ℕ, ◌+◌, slice_index_or, Bool, ◌||◌, ◌&&◌, nat_eq, nat_lt, List, [], ◌∷◌, ◌++◌, length, Option, Some, None, is_some, if◌then◌else◌}
use Rattle.std.specs.List.{filter, list_any}
use Rattle.std.specs.declared.alloc.Global.{Global}
use Rattle.std.specs.declared.vec.Vec.{Vec}
use Rattle.std.specs.Borrow.{Bor}
use Rattle.sal_types.specs.declared.value.Store.{Store}
use Rattle.sal_types.specs.declared.value.Step.{Step}
use Rattle.sal_node.specs.Tree.{Tree, Forest, bare, grown}
use Rattle.sal_tree.specs.Grow.{at, kids_in, cell_in, present}
use Rattle.sal_schema.specs.declared.table.SchemaTable.{SchemaTable}
use Rattle.sal_schema.specs.Kinds.{is_choice}
use Rattle.sal_schema.specs.Table.{data_parent, is_kind, max_elements, uniques_of}
use Rattle.sal_rows.specs.declared.outcome.Breach.{Breach}
use Rattle.sal_rules.specs.declared.spot.Spot.{Spot}
use Rattle.sal_rules.specs.Breaches.{breaches_from, first, numbers}
use Rattle.sal_rules.specs.Contexts.{stand}
use Rattle.sal_rules.specs.Places.{after_step}
use Rattle.sal_rules.specs.Rules.{has_minimum, is_required}
use Rattle.sal_rules.specs.Seen.{Seen}

-- ---- the tree as a place

-- the steps to the children that have a cell
abbrev pub own_steps : List (Step × Tree) → List Step
own_steps [] = []
own_steps (e ∷ es) = if is_some e.1.cell then e.0 ∷ own_steps es else own_steps es

abbrev pub seen_in : Option Tree → Seen
seen_in o = record { has = λ p. present (at o p); cell = λ p. cell_in (at o p); entries = λ p. own_steps (kids_in (at o p)) }

-- ---- which nodes are judged where

-- the number of a place's list of nodes: the root's is first
abbrev pub slot : Option ℕ → ℕ
slot None = 0
slot (Some n) = n + 1

-- a rule is stated at the node: no other node has a rule that is broken
abbrev pub states : SchemaTable → ℕ → Bool
states table n = is_required table n || (has_minimum table n || (is_some (max_elements table n) || (nat_lt 0 (length (uniques_of table n)) || is_kind is_choice table n)))

abbrev pub is_judged_in : SchemaTable → ℕ → ℕ → Bool
is_judged_in table k n = states table n && (nat_eq (slot (stand table n)) k || nat_eq (slot (data_parent table n)) k)

abbrev pub judged_in : SchemaTable → ℕ → List ℕ
judged_in table k = filter (is_judged_in table k) (first (length table.nodes))

abbrev pub judged : SchemaTable → Option ℕ → List ℕ
judged table m = judged_in table (slot m)

-- the lists of the root and of each node, with a flag whether there is anything to judge
pub record AreJudged (table : SchemaTable) (lists : List (Vec ℕ Global)) (any : Bool) : Type 0 where
  pub count : length lists ≡ length table.nodes + 1
  pub each : (k : ℕ) (d : Vec ℕ Global) → k < length lists → (slice_index_or lists k d).items ≡ judged_in table k
  pub some : any ≡ list_any (states table) (numbers table)

-- ---- the walk

abbrev pub found_at : SchemaTable → Store → List Step → Spot → Tree → List Breach
found_at table store place spot t = breaches_from table store place (seen_in (Some t)) spot (judged table spot.node)

abbrev pub found_below : SchemaTable → Store → List Step → Spot → Forest → List Breach
found_below table store place spot bare = []
found_below table store place spot (grown x s c ks rest) =
    (found_at table store (place ++ x ∷ []) (after_step table spot x) (record { stamp = s; cell = c; kids = ks })
    ++ found_below table store (place ++ x ∷ []) (after_step table spot x) ks)
    ++ found_below table store place spot rest

-- at a node and below it
abbrev pub found : SchemaTable → Store → List Step → Spot → Tree → List Breach
found table store place spot t = found_at table store place spot t ++ found_below table store place spot t.kids

-- the steps as values, without references
abbrev pub steps_in : List (Bor Step) → List Step
steps_in [] = []
steps_in (x ∷ xs) = x.now ∷ steps_in xs

-- at some children and below them
abbrev pub found_in : SchemaTable → Store → List Step → Spot → List (Step × Tree) → List Breach
found_in table store place spot [] = []
found_in table store place spot (e ∷ es) = found table store (place ++ e.0 ∷ []) (after_step table spot e.0) e.1 ++ found_in table store place spot es
