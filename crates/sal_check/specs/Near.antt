-- The breaches near the changes from one tree to another: those of places below which something changed.
use Rattle.std.specs.Prelude.{◌≡◌, ◌≢◌, ◌==◌, ℕ, Bool, true, false, not, ◌&&◌, ◌||◌, List, [], ◌∷◌, ◌++◌, length, map, nat_le, Option, Some, None, is_some, if◌then◌else◌}
use Rattle.std.specs.List.{flat_map, list_any}
use Rattle.sal_types.specs.declared.value.Store.{Store}
use Rattle.sal_types.specs.declared.value.Step.{Step}
use Rattle.sal_types.specs.declared.value.Step.TheVariants.{Node}
use Rattle.sal_types.specs.declared.value.Cell.{Cell}
use Rattle.sal_types.specs.declared.row.Row.{Row}
use Rattle.sal_types.specs.Tree.{under}
use Rattle.sal_node.specs.Tree.{Tree, Forest, IsGrove, bare, grown}
use Rattle.sal_tree.specs.Grow.{IsSound, at, kid, kids_in}
use Rattle.sal_schema.specs.declared.table.SchemaTable.{SchemaTable}
use Rattle.sal_schema.specs.Kinds.{has_entries, is_list}
use Rattle.sal_schema.specs.Table.{is_kind, is_same, data_parent, uniques_of}
use Rattle.sal_rows.specs.declared.outcome.Breach.{Breach}
use Rattle.sal_rows.specs.declared.outcome.Rule.{Rule}
use Rattle.sal_rows.specs.declared.outcome.Rule.TheVariants.{Mandatory, MinElements, MaxElements, Unique, TwoCases}
use Rattle.sal_rules.specs.declared.spot.Spot.{Spot}
use Rattle.sal_rules.specs.Breaches.{is_looked_at, node_of_rule, rules_of}
use Rattle.sal_rules.specs.Contexts.{way, way_in_entry}
use Rattle.sal_check.specs.Nodes.{seen_in, judged}
use Rattle.sal_rules.specs.Places.{after_step}
use Rattle.sal_rules.specs.Rules.{broken, cells_at, has_double, has_minimum, is_demanded, same_cells, steps_to}
use Rattle.sal_check.specs.Uniques.{combination}
use Rattle.sal_rules.specs.Seen.{seen_from}

-- ---- laws of the rules

-- A rule that is newly broken at a place has a row below the place that was added, removed or changed.
abbrev pub BreaksNearAChange : Type 0
BreaksNearAChange =
    (table : SchemaTable) (before after : List Row) (place : List Step) (m : Option ℕ) (rule : Rule)
    → broken table (seen_from before place) m rule ≡ false → broken table (seen_from after place) m rule ≡ true
    → under before place ≢ under after place

-- Too many entries, and entries that agree, have such a row in their list.
abbrev pub TooManyNearAChange : Type 0
TooManyNearAChange =
    (table : SchemaTable) (before after : List Row) (place : List Step) (m : Option ℕ) (n : ℕ)
    → broken table (seen_from before place) m (MaxElements n) ≡ false → broken table (seen_from after place) m (MaxElements n) ≡ true
    → under before (place ++ Node n ∷ []) ≢ under after (place ++ Node n ∷ [])

abbrev pub RepeatsNearAChange : Type 0
RepeatsNearAChange =
    (table : SchemaTable) (before after : List Row) (place : List Step) (m : Option ℕ) (n : ℕ)
    → broken table (seen_from before place) m (Unique n) ≡ false → broken table (seen_from after place) m (Unique n) ≡ true
    → under before (place ++ Node n ∷ []) ≢ under after (place ++ Node n ∷ [])

-- ---- the walk over both trees

-- the children of the node before, if there was one, and of the node now, and of all below, are in order
abbrev pub AreGroves : Option Tree → Tree → Type 0
AreGroves before t = IsSound before × IsGrove t.kids

-- whether the stamp is one of those of the change
abbrev pub is_new : List ℕ → ℕ → Bool
is_new [] s = false
is_new (k ∷ stamps) s = (s == k) || is_new stamps s

-- A node with none of these stamps is the one that was at its path before, with all that is below it.
abbrev pub KeepsAt : List ℕ → Option Tree → Option Tree → Type 0
KeepsAt stamps before after = (p : List Step) (n : Tree) → at after p ≡ Some n → is_new stamps n.stamp ≡ false → at before p ≡ Some n

abbrev pub Keeps : List ℕ → Tree → Tree → Type 0
Keeps stamps before after = KeepsAt stamps (Some before) (Some after)

-- ---- entries of a list whose leafs of a `unique` statement changed

-- the cells at these paths in an entry, if it is one and has them all
abbrev pub leafs_of : List (List Step) → Option Tree → Option (List Cell)
leafs_of ways None = None
leafs_of ways (Some t) = if is_some t.cell then cells_at (seen_in (Some t)) ways else None

-- the cells after exist, and differ from those before
abbrev pub differs : Option (List Cell) → Option (List Cell) → Bool
differs before None = false
differs None (Some cells) = true
differs (Some old) (Some cells) = not (same_cells old cells)

-- an entry of a list with other cells than it had in the list before
abbrev pub is_fresh : List ℕ → List (List Step) → Option Tree → Step × Tree → Bool
is_fresh stamps ways before e = is_new stamps e.1.stamp && differs (leafs_of ways (kid before e.0)) (leafs_of ways (Some e.1))

abbrev pub fresh_of : List ℕ → List (List Step) → Option Tree → Step × Tree → List (List Cell)
fresh_of stamps ways before e = if is_fresh stamps ways before e then combination ways e else []

abbrev pub other_of : List ℕ → List (List Step) → Option Tree → Step × Tree → List (List Cell)
other_of stamps ways before e = if is_fresh stamps ways before e then [] else combination ways e

abbrev pub is_among : List (List Cell) → List Cell → Bool
is_among xs x = list_any (same_cells x) xs

-- two fresh entries agree, or a fresh one agrees with another one
abbrev pub agree_freshly : List ℕ → List (List Step) → Option Tree → List (Step × Tree) → Bool
agree_freshly stamps ways before es =
    has_double (flat_map (fresh_of stamps ways before) es)
    || list_any (is_among (flat_map (fresh_of stamps ways before) es)) (flat_map (other_of stamps ways before) es)

-- in all leafs of one `unique` statement of the list
abbrev pub repeats_freshly : List ℕ → SchemaTable → Tree → Tree → ℕ → Bool
repeats_freshly stamps table before t n =
    list_any (λ leafs. agree_freshly stamps (map (way_in_entry table) leafs) (kid (Some before) (Node n)) (kids_in (kid (Some t) (Node n)))) (uniques_of table n)

-- ---- rules that stay kept

abbrev pub is_kept : List ℕ → Option Tree → Bool
is_kept stamps None = false
is_kept stamps (Some t) = not (is_new stamps t.stamp)

-- The stamps show that the rule is kept at a place where it was kept before: its list is unchanged, and the fewest entries of the rule were
-- required before too. If there was nothing before, they show nothing.
abbrev pub is_settled : List ℕ → SchemaTable → Option Tree → Option Tree → Rule → Bool
is_settled stamps table None after rule = false
is_settled stamps table (Some b) after (Mandatory n) = false
is_settled stamps table (Some b) after (MinElements n) = has_minimum table n && (is_demanded table (seen_in (Some b)) n && is_kept stamps (at after (way table n ++ Node n ∷ [])))
is_settled stamps table (Some b) after (MaxElements n) = is_kind has_entries table n && is_kept stamps (kid after (Node n))
is_settled stamps table (Some b) after (Unique n) = is_kind has_entries table n && is_kept stamps (kid after (Node n))
is_settled stamps table (Some b) after (TwoCases n) = false

-- The breach of a rule that is broken at a place, unless the path is too long.
abbrev pub breach_there : SchemaTable → List Step → Rule → List Breach
breach_there table place rule = if nat_le (length (place ++ steps_to table rule)) 32 then record { path = place ++ steps_to table rule; rule = rule } ∷ [] else []

-- the breach of a rule that may be broken, if it is checked
abbrev pub breach_if : SchemaTable → Store → List Step → Rule → Bool → List Breach
breach_if table store place rule is_broken =
    if (is_looked_at table store (node_of_rule rule) && is_broken) && nat_le (length (place ++ steps_to table rule)) 32
    then record { path = place ++ steps_to table rule; rule = rule } ∷ [] else []

-- A rule is broken at a place where it was kept before: a `unique` statement by a fresh entry.
abbrev pub broken_near : List ℕ → SchemaTable → Option Tree → Tree → Option ℕ → Rule → Bool
broken_near stamps table None t m rule = broken table (seen_in (Some t)) m rule
broken_near stamps table (Some b) t m (Mandatory n) = broken table (seen_in (Some t)) m (Mandatory n)
broken_near stamps table (Some b) t m (MinElements n) = broken table (seen_in (Some t)) m (MinElements n)
broken_near stamps table (Some b) t m (MaxElements n) = broken table (seen_in (Some t)) m (MaxElements n)
broken_near stamps table (Some b) t m (Unique n) = is_kind is_list table n && (is_same (data_parent table n) m && repeats_freshly stamps table b t n)
broken_near stamps table (Some b) t m (TwoCases n) = broken table (seen_in (Some t)) m (TwoCases n)

-- the breach of a rule that is not settled
abbrev pub near_of : List ℕ → SchemaTable → Store → List Step → Option Tree → Tree → Option ℕ → Rule → List Breach
near_of stamps table store place before t m rule = if is_settled stamps table before (Some t) rule then [] else breach_if table store place rule (broken_near stamps table before t m rule)

abbrev pub near_all : List ℕ → SchemaTable → Store → List Step → Option Tree → Tree → Option ℕ → List ℕ → List Breach
near_all stamps table store place before t m nodes = flat_map (λ n. flat_map (near_of stamps table store place before t m) (rules_of n)) nodes

-- at a place
abbrev pub near_at : List ℕ → SchemaTable → Store → List Step → Spot → Option Tree → Tree → List Breach
near_at stamps table store place spot before t = if spot.wants_entry then [] else near_all stamps table store place before t spot.node (judged table spot.node)

-- at some children and below them, but only at those with a new stamp
abbrev pub near_below : List ℕ → SchemaTable → Store → List Step → Spot → Option Tree → Forest → List Breach
near_below stamps table store place spot before bare = []
near_below stamps table store place spot before (grown x s c ks rest) =
    (if is_new stamps s
    then near_at stamps table store (place ++ x ∷ []) (after_step table spot x) (kid before x) (record { stamp = s; cell = c; kids = ks })
    ++ near_below stamps table store (place ++ x ∷ []) (after_step table spot x) (kid before x) ks
    else [])
    ++ near_below stamps table store place spot before rest

-- at a node and below it
abbrev pub near : List ℕ → SchemaTable → Store → List Step → Spot → Option Tree → Tree → List Breach
near stamps table store place spot before t = if is_new stamps t.stamp then near_at stamps table store place spot before t ++ near_below stamps table store place spot before t.kids else []

-- at some children and below them
abbrev pub near_in : List ℕ → SchemaTable → Store → List Step → Spot → Option Tree → List (Step × Tree) → List Breach
near_in stamps table store place spot before [] = []
near_in stamps table store place spot before (e ∷ es) = near stamps table store (place ++ e.0 ∷ []) (after_step table spot e.0) (kid before e.0) e.1 ++ near_in stamps table store place spot before es
