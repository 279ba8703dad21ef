-- How rows are written as JSON (RFC 7951 sections 4 and 5).
use Rattle.std.specs.Prelude.{ℕ, zero, suc, ◌+◌, Bool, List, [], ◌∷◌, ◌++◌, length, Option, Some, None, fold, if◌then◌else◌}
use Rattle.std.specs.List.{slice_get}
use Rattle.std.specs.Option.{option_map_or, option_eq}
use Rattle.serde_json.specs.Data.{Data, null, array, object, Members, no_members, put}
use Rattle.serde_json.specs.View.{items_of}
use Rattle.sal_types.specs.declared.value.Value.{Value}
use Rattle.sal_types.specs.declared.value.Cell.{Cell}
use Rattle.sal_types.specs.declared.value.Cell.TheVariants.{Mark, Leaf}
use Rattle.sal_types.specs.declared.value.Step.{Step}
use Rattle.sal_types.specs.declared.value.Step.TheVariants.{Node, Key, Item}
use Rattle.sal_types.specs.declared.row.Row.{Row}
use Rattle.sal_types.specs.Tree.{under}
use Rattle.sal_schema.specs.declared.table.SchemaTable.{SchemaTable}
use Rattle.sal_schema.specs.Kinds.{is_leaf, is_leaf_list, is_list}
use Rattle.sal_schema.specs.Table.{is_kind, type_of, module_of}
use Rattle.sal_schema.specs.Paths.{last_step, node_of}
use Rattle.sal_json.specs.Written.{json_of}
use Rattle.sal_data.specs.Members.{member_name}
use Rattle.sal_data.specs.Read.{same_step}

-- Below, k is the number of steps to a place, and rows are those of a tree at and below the place, in the order of their
-- paths. So rows with the same next step are adjacent.

-- ---- runs of rows

-- the step after the place; none of a row at the place itself
abbrev pub next_step : ℕ → Row → Option Step
next_step k row = slice_get row.path k

abbrev pub same_next : Option Step → Option Step → Bool
same_next = option_eq same_step

-- the next step of a run, which all its rows have
abbrev pub step_of : ℕ → List Row → Option Step
step_of k [] = None
step_of k (row ∷ rows) = next_step k row

-- one more row before the runs: it joins the first one, if that has its next step
abbrev pub with_row : ℕ → Row → List (List Row) → List (List Row)
with_row k row [] = (row ∷ []) ∷ []
with_row k row (run ∷ runs) = if same_next (next_step k row) (step_of k run) then (row ∷ run) ∷ runs else (row ∷ []) ∷ run ∷ runs

-- the rows in runs, each with another next step than the one before it
unfoldable pub runs_of : ℕ → List Row → List (List Row)
runs_of k [] = []
runs_of k (row ∷ rows) = with_row k row (runs_of k rows)

-- ---- values

unfoldable pub scalar_json : SchemaTable → ℕ → Value → Data
scalar_json table n value = option_map_or (λ ty. option_map_or (λ m. json_of table ty m value) (module_of table n) null) (type_of table n) null

abbrev pub cell_json : SchemaTable → ℕ → Cell → Data
cell_json table n Mark = null
cell_json table n (Leaf value) = scalar_json table n value

-- the value of the leaf, from its row
abbrev pub leaf_json : SchemaTable → ℕ → List Row → Data
leaf_json table n [] = null
leaf_json table n (row ∷ rows) = cell_json table n row.cell

-- ---- trees

-- the value of a node from its place and its rows
abbrev pub Writer : Type 0
Writer = ℕ → ℕ → List Row → Data

-- the members with that of a node, in byte order of their names
abbrev pub with_member : SchemaTable → Option ℕ → Writer → ℕ → Members → Option Step → List Row → Members
with_member table parent f k ms (Some (Node n)) run = put (member_name table parent n) (f n (k + 1) run) ms
with_member table parent f k ms step run = ms

abbrev pub with_run : SchemaTable → Option ℕ → Writer → ℕ → Members → List Row → Members
with_run table parent f k ms run = with_member table parent f k ms (step_of k run) run

-- an object with a member for each child that has a row at it or below it: neither lists nor containers without presence are empty there
abbrev pub members_json : SchemaTable → Option ℕ → Writer → ℕ → List Row → Data
members_json table parent f k rows = object (fold (with_run table parent f k) no_members (runs_of k rows))

-- the value of an entry of the leaf-list
abbrev pub item_json : SchemaTable → ℕ → Option Step → List Data
item_json table n (Some (Item value)) = scalar_json table n value ∷ []
item_json table n step = []

-- the values of the entries of the leaf-list
abbrev pub items_json : SchemaTable → ℕ → ℕ → List (List Row) → List Data
items_json table n k [] = []
items_json table n k (run ∷ runs) = item_json table n (step_of k run) ++ items_json table n k runs

-- the value of an entry of the list
abbrev pub entry_json : SchemaTable → ℕ → Writer → ℕ → Option Step → List Row → List Data
entry_json table n f k (Some (Key values)) run = members_json table (Some n) f (k + 1) run ∷ []
entry_json table n f k step run = []

-- the values of the entries of the list
abbrev pub entries_json : SchemaTable → ℕ → Writer → ℕ → List (List Row) → List Data
entries_json table n f k [] = []
entries_json table n f k (run ∷ runs) = entry_json table n f k (step_of k run) run ++ entries_json table n f k runs

-- the value of a node with at most this many levels of nodes
unfoldable pub node_json : ℕ → SchemaTable → Writer
node_json zero table n k rows = null
node_json (suc levels) table n k rows =
    if is_kind is_leaf table n then leaf_json table n rows
    else if is_kind is_leaf_list table n then array (items_of (items_json table n k (runs_of k rows)))
    else if is_kind is_list table n then array (items_of (entries_json table n (node_json levels table) k (runs_of k rows)))
    else members_json table (Some n) (node_json levels table) k rows

-- a path has at most 32 steps
abbrev pub any_json : SchemaTable → Writer
any_json table = node_json 32 table

-- ---- the value at a path

abbrev pub json_at : SchemaTable → List Step → Option Step → List Row → Data
json_at table path None rows = members_json table None (any_json table) 0 rows
json_at table path (Some (Node n)) rows = any_json table n (length path) rows
json_at table path (Some (Key values)) rows = members_json table (node_of path) (any_json table) (length path) rows
json_at table path (Some (Item value)) rows = option_map_or (λ n. scalar_json table n value) (node_of path) null

-- the JSON value of the rows at the path and below it, for rows in the order of their paths
abbrev pub write_data : SchemaTable → List Step → List Row → Data
write_data table path rows = json_at table path (last_step path) (under rows path)
