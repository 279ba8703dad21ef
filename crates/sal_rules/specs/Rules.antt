-- The structural rules (RFC 7950 sections 7.6.5, 7.7.5, 7.7.6, 7.8.3 and 7.9), at one place of a tree.
use Rattle.std.specs.Prelude.{ℕ, zero, suc, Bool, false, not, ◌&&◌, ◌||◌, nat_lt, nat_le, List, [], ◌∷◌, ◌++◌, length, map, Option, Some, None, if◌then◌else◌}
use Rattle.std.specs.List.{list_any, filter, flat_map}
use Rattle.std.specs.Option.{option_to_list, option_and_then}
use Rattle.std.specs.Prelude.{option_map}
use Rattle.std.specs.Ordering.{eq_by_cmp}
use Rattle.std.specs.Cmp.Lexicographic.{slice_cmp}
use Rattle.sal_types.specs.declared.value.Step.{Step}
use Rattle.sal_types.specs.declared.value.Step.TheVariants.{Node}
use Rattle.sal_types.specs.declared.value.Cell.{Cell}
use Rattle.sal_types.specs.Order.{cell_cmp}
use Rattle.sal_schema.specs.declared.table.SchemaTable.{SchemaTable}
use Rattle.sal_schema.specs.Kinds.{is_choice_or_case, is_case, is_choice, is_leaf, is_list, has_entries}
use Rattle.sal_schema.specs.Table.{is_kind, is_same, children_of, data_parent, is_mandatory, min_elements, max_elements, uniques_of}
use Rattle.sal_rows.specs.declared.outcome.Rule.{Rule}
use Rattle.sal_rows.specs.declared.outcome.Rule.TheVariants.{Mandatory, MinElements, MaxElements, Unique, TwoCases}
use Rattle.sal_rules.specs.Contexts.{context, stand, way, way_in_entry}
use Rattle.sal_rules.specs.Seen.{Seen, further}

-- ---- the data at a place

-- A data child of this place is present; a choice or a case is present if a node in it is. Choices and cases
-- are nested to this depth at most.
unfoldable pub is_there : SchemaTable → Seen → ℕ → ℕ → Bool
is_there table see zero n = false
is_there table see (suc deep) n = if is_kind is_choice_or_case table n then list_any (is_there table see deep) (children_of table (Some n)) else see.has (Node n ∷ [])

abbrev pub stands : SchemaTable → Seen → ℕ → Bool
stands table see n = is_there table see (length table.nodes) n

-- how many entries the list or leaf-list at this place has
abbrev pub count : Seen → ℕ → ℕ
count see n = length (see.entries (Node n ∷ []))

-- ---- required nodes

-- A node without a context is required if the tree has the top-level container above it. A node whose context is a list or a
-- presence container is required wherever that is present, and one whose context is a case, wherever a node of the case is.
abbrev pub is_demanded_by : SchemaTable → Seen → List Step → Option ℕ → Bool
is_demanded_by table see [] None = false
is_demanded_by table see (container ∷ way) None = see.has (container ∷ [])
is_demanded_by table see way (Some c) = not (is_kind is_case table c) || stands table see c

-- the node is required, as seen from the place of its context
abbrev pub is_demanded : SchemaTable → Seen → ℕ → Bool
is_demanded table see n = is_demanded_by table see (way table n) (context table n)

-- ---- the statements of a node

abbrev pub is_required : SchemaTable → ℕ → Bool
is_required table n = is_mandatory table n && (is_kind is_leaf table n || is_kind is_choice table n)

abbrev pub has_minimum : SchemaTable → ℕ → Bool
has_minimum table n = is_kind has_entries table n && nat_lt 0 (min_elements table n)

-- more than the most that is stated
abbrev pub is_past : Option ℕ → ℕ → Bool
is_past None entries = false
is_past (Some most) entries = nat_lt most entries

-- ---- the rules of a node at its data parent's place

-- the cells at these paths, if each has one
abbrev pub cells_at : Seen → List (List Step) → Option (List Cell)
cells_at see [] = Some []
cells_at see (p ∷ ps) = option_and_then (λ c. option_map (λ cs. c ∷ cs) (cells_at see ps)) (see.cell p)

-- the cells of these leafs in each entry that has them all
abbrev pub combinations : SchemaTable → Seen → ℕ → List ℕ → List (List Cell)
combinations table see n leafs = flat_map (λ entry. option_to_list (cells_at (further see (Node n ∷ entry ∷ [])) (map (way_in_entry table) leafs))) (see.entries (Node n ∷ []))

abbrev pub same_cells : List Cell → List Cell → Bool
same_cells = eq_by_cmp (slice_cmp cell_cmp)

abbrev pub has_double : List (List Cell) → Bool
has_double [] = false
has_double (x ∷ xs) = list_any (same_cells x) xs || has_double xs

-- two entries agree in all leafs of one `unique` statement
abbrev pub repeats : SchemaTable → Seen → ℕ → Bool
repeats table see n = list_any (λ leafs. has_double (combinations table see n leafs)) (uniques_of table n)

-- nodes of two cases of a choice are present
abbrev pub has_two_cases : SchemaTable → Seen → ℕ → Bool
has_two_cases table see n = nat_le 2 (length (filter (stands table see) (children_of table (Some n))))

-- ---- one rule

-- The rule is broken as seen from a place of the node m, or from the root. `Mandatory` and `MinElements` are
-- checked at the node's context, and the others at its data parent.
abbrev pub broken : SchemaTable → Seen → Option ℕ → Rule → Bool
broken table see m (Mandatory n) = is_required table n && (is_same (stand table n) m && (is_demanded table see n && not (stands table (further see (way table n)) n)))
broken table see m (MinElements n) = has_minimum table n && (is_same (stand table n) m && (is_demanded table see n && nat_lt (count (further see (way table n)) n) (min_elements table n)))
broken table see m (MaxElements n) = is_kind has_entries table n && (is_same (data_parent table n) m && is_past (max_elements table n) (count see n))
broken table see m (Unique n) = is_kind is_list table n && (is_same (data_parent table n) m && repeats table see n)
broken table see m (TwoCases n) = is_kind is_choice table n && (is_same (data_parent table n) m && has_two_cases table see n)

-- the steps from where a rule is checked to where it is broken
abbrev pub steps_to : SchemaTable → Rule → List Step
steps_to table (Mandatory n) = way table n
steps_to table (MinElements n) = way table n ++ Node n ∷ []
steps_to table (MaxElements n) = Node n ∷ []
steps_to table (Unique n) = Node n ∷ []
steps_to table (TwoCases n) = []
