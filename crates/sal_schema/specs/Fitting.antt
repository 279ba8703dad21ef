-- Which rows are data of a schema.
use Rattle.std.specs.Prelude.{ℕ, Bool, true, false, not, ◌&&◌, ◌||◌, List, [], ◌∷◌, ◌++◌, map, Option, Some, None, is_some}
use Rattle.std.specs.List.{list_all}
use Rattle.std.specs.Option.{option_map_or}
use Rattle.std.specs.Ordering.{eq_by_cmp}
use Rattle.sal_types.specs.declared.value.Value.{Value}
use Rattle.sal_types.specs.declared.value.Cell.{Cell}
use Rattle.sal_types.specs.declared.value.Cell.TheVariants.{Mark, Leaf}
use Rattle.sal_types.specs.declared.value.Step.{Step}
use Rattle.sal_types.specs.declared.value.Step.TheVariants.{Node, Key}
use Rattle.sal_types.specs.declared.row.Row.{Row}
use Rattle.sal_types.specs.Order.{cell_cmp}
use Rattle.sal_types.specs.Prefix.{is_prefix}
use Rattle.sal_types.specs.Tree.{cell}
use Rattle.sal_schema.specs.declared.table.SchemaTable.{SchemaTable}
use Rattle.sal_schema.specs.Kinds.{is_leaf, is_presence, is_message}
use Rattle.sal_schema.specs.Table.{is_kind, is_among, parent_of, keys_of, is_state}
use Rattle.sal_schema.specs.Values.{is_of_node}
use Rattle.sal_schema.specs.Paths.{fits_path, last_step, node_of}

-- ---- one row

-- presence containers, list entries and leaf-list entries have a row with a mark
abbrev pub has_mark : SchemaTable → Option Step → Bool
has_mark table None = false
has_mark table (Some (Node n)) = is_kind is_presence table n
has_mark table (Some step) = true

-- leafs have a row with a value
abbrev pub has_value : SchemaTable → Option Step → Value → Bool
has_value table (Some (Node n)) value = is_kind is_leaf table n && is_of_node table n value
has_value table step value = false

abbrev pub is_at_leaf : SchemaTable → Option Step → Bool
is_at_leaf table (Some (Node n)) = is_kind is_leaf table n
is_at_leaf table step = false

-- the node at the path has its own row by its kind
abbrev pub has_own_row : SchemaTable → List Step → Bool
has_own_row table path = has_mark table (last_step path) || is_at_leaf table (last_step path)

-- a leaf has a value of its type, and presence containers and entries have a mark
abbrev pub cell_fits : SchemaTable → List Step → Cell → Bool
cell_fits table path Mark = has_mark table (last_step path)
cell_fits table path (Leaf value) = has_value table (last_step path) value

-- ---- rows at and below a path

-- the paths from the root to this one, itself included
abbrev pub prefixes : List Step → List (List Step)
prefixes [] = [] ∷ []
prefixes (step ∷ path) = [] ∷ map (λ q. step ∷ q) (prefixes path)

-- the rows have this cell at the path
abbrev pub has_cell : List Row → List Step → Cell → Bool
has_cell rows path c = option_map_or (λ d. eq_by_cmp cell_cmp d c) (cell rows path) false

-- the key leafs of the entry at the path are present, with these values
abbrev pub has_key_leafs : List Row → List Step → List ℕ → List Value → Bool
has_key_leafs rows path (leaf ∷ leafs) (value ∷ values) = has_cell rows (path ++ Node leaf ∷ []) (Leaf value) && has_key_leafs rows path leafs values
has_key_leafs rows path leafs values = true

-- a list entry has its key leafs, with the values of its keys
abbrev pub has_keys : SchemaTable → List Row → List Step → Option Step → Bool
has_keys table rows path (Some (Key values)) = has_key_leafs rows path (option_map_or (keys_of table) (node_of path) []) values
has_keys table rows path step = true

-- an entry or presence container at the path has its own row, and an entry its key leafs
abbrev pub is_whole_at : SchemaTable → List Row → List Step → Bool
is_whole_at table rows path = (not (has_mark table (last_step path)) || is_some (cell rows path)) && has_keys table rows path (last_step path)

-- each entry and presence container above a row is whole, from the path p down
abbrev pub is_whole_above : SchemaTable → List Row → List Step → List Step → Bool
is_whole_above table rows p path = list_all (λ q. not (is_prefix p q) || is_whole_at table rows q) (prefixes path)

-- the path begins with an input, output or notification
abbrev pub is_in_message : SchemaTable → List Step → Bool
is_in_message table [] = false
is_in_message table (Node n ∷ path) = is_kind is_message table n
is_in_message table (step ∷ path) = false

abbrev pub is_root : List Step → Bool
is_root [] = true
is_root (step ∷ path) = false

-- The path of each row fits and is at or below p, and its cell is one for its node; list entries and presence containers
-- above it, from p down, are whole. Rows fit at the root only if none is part of an RPC or a notification.
abbrev pub row_fits : SchemaTable → List Step → List Row → Row → Bool
row_fits table p rows row =
    ((fits_path table row.path && is_prefix p row.path) && (cell_fits table row.path row.cell && is_whole_above table rows p row.path))
    && (not (is_root p) || not (is_in_message table row.path))

abbrev pub fits : SchemaTable → List Step → List Row → Bool
fits table p rows = list_all (row_fits table p rows) rows

-- a tree is closed if it fits at the root
abbrev pub is_closed : SchemaTable → List Row → Bool
is_closed table tree = fits table [] tree

-- ---- state data

-- the path is one of a state node
abbrev pub is_of_state : SchemaTable → List Step → Bool
is_of_state table path = option_map_or (is_state table) (node_of path) false

-- ---- key leafs

-- the node is a key of its list
abbrev pub is_key : SchemaTable → ℕ → Bool
is_key table n = option_map_or (λ list. is_among n (keys_of table list)) (parent_of table n) false

abbrev pub is_at_key : SchemaTable → Option Step → Bool
is_at_key table (Some (Node n)) = is_key table n
is_at_key table step = false

-- the path is one of a key leaf
abbrev pub is_key_leaf : SchemaTable → List Step → Bool
is_key_leaf table path = is_at_key table (last_step path)
