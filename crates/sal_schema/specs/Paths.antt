-- Which paths fit a schema, and their nodes.
use Rattle.std.specs.Prelude.{ℕ, ◌-◌, length, Bool, true, false, not, ◌&&◌, ◌||◌, List, [], ◌∷◌, Option, Some, None}
use Rattle.std.specs.List.{slice_get}
use Rattle.std.specs.Option.{option_map_or}
use Rattle.sal_types.specs.declared.value.Value.{Value}
use Rattle.sal_types.specs.declared.value.Step.{Step}
use Rattle.sal_types.specs.declared.value.Step.TheVariants.{Node, Key, Item}
use Rattle.sal_schema.specs.declared.fitting.Place.{Place}
use Rattle.sal_schema.specs.declared.table.SchemaTable.{SchemaTable}
use Rattle.sal_schema.specs.Kinds.{is_message, has_entries, is_list, is_leaf_list}
use Rattle.sal_schema.specs.Table.{is_kind, is_data_child, keys_of}
use Rattle.sal_schema.specs.Values.{is_of_node}

-- A step to this node may follow one to that node, or be the first. The parent of the data of an RPC or a notification is the node
-- of its input, output or notification, which is a top-level name here.
abbrev pub may_follow : SchemaTable → Option ℕ → ℕ → Bool
may_follow table None n = is_data_child table None n || is_kind is_message table n
may_follow table (Some p) n = is_data_child table (Some p) n

-- a value for each key, of the type of its leaf
abbrev pub are_of_nodes : SchemaTable → List ℕ → List Value → Bool
are_of_nodes table [] [] = true
are_of_nodes table (leaf ∷ leafs) (value ∷ values) = is_of_node table leaf value && are_of_nodes table leafs values
are_of_nodes table leafs values = false

-- Keys follow only a list, and a value follows a leaf-list.
abbrev pub may_pick : SchemaTable → ℕ → Step → Bool
may_pick table n (Node m) = false
may_pick table n (Key values) = is_kind is_list table n && are_of_nodes table (keys_of table n) values
may_pick table n (Item value) = is_kind is_leaf_list table n && is_of_node table n value

-- at the root
abbrev pub top : Place
top = record { node = None; wants_entry = false }

-- the step fits here
abbrev pub step_fits : SchemaTable → Place → Step → Bool
step_fits table place (Node n) = not place.wants_entry && may_follow table place.node n
step_fits table place (Key values) = place.wants_entry && option_map_or (λ n. may_pick table n (Key values)) place.node false
step_fits table place (Item value) = place.wants_entry && option_map_or (λ n. may_pick table n (Item value)) place.node false

-- the place after the step
abbrev pub after_step : SchemaTable → Place → Step → Place
after_step table place (Node n) = record { node = Some n; wants_entry = is_kind has_entries table n }
after_step table place step = record { node = place.node; wants_entry = false }

abbrev pub fits_from : SchemaTable → Place → List Step → Bool
fits_from table place [] = true
fits_from table place (step ∷ steps) = step_fits table place step && fits_from table (after_step table place step) steps

-- Each step names a data node below the one before, or has the keys of its list or the value of its leaf-list.
abbrev pub fits_path : SchemaTable → List Step → Bool
fits_path table path = fits_from table top path

-- ---- the end of a path

-- the last step
abbrev pub last_step : List Step → Option Step
last_step path = slice_get path (length path - 1)

-- the node that the path names: the list for each of its entries; none at the root
abbrev pub node_from : Option ℕ → List Step → Option ℕ
node_from here [] = here
node_from here (Node n ∷ steps) = node_from (Some n) steps
node_from here (step ∷ steps) = node_from here steps

abbrev pub node_of : List Step → Option ℕ
node_of path = node_from None path
