-- How frames are written: compact JSON, one spelling for each.
use Rattle.std.specs.Prelude.{ℕ, List, [], ◌∷◌, map, Option, Some, None, codes}
use Rattle.std.specs.Option.{option_map_or}
use Rattle.serde_json.specs.Data.{Data, null, number, array, object, unsigned, no_items, item, no_members, member}
use Rattle.serde_json.specs.View.{items_of}
use Rattle.serde_json.specs.Written.{compact_text}
use Rattle.sal_types.specs.declared.value.Value.{Value}
use Rattle.sal_types.specs.declared.value.Cell.{Cell}
use Rattle.sal_types.specs.declared.value.Cell.TheVariants.{Mark, Leaf}
use Rattle.sal_types.specs.declared.value.Step.{Step}
use Rattle.sal_types.specs.declared.value.Step.TheVariants.{Node, Key, Item}
use Rattle.sal_rows.specs.declared.rows.patch.Patch.{Patch}
use Rattle.sal_schema.specs.declared.table.SchemaTable.{SchemaTable}
use Rattle.sal_schema.specs.Table.{keys_of}
use Rattle.sal_schema.specs.Paths.{node_from, node_of}
use Rattle.sal_data.specs.Written.{scalar_json}
use Rattle.sal_follow.specs.declared.frame.Frame.{Frame}

-- the values of the keys, each of the type of its leaf
abbrev pub keys_json : SchemaTable → List ℕ → List Value → List Data
keys_json table (leaf ∷ leafs) (value ∷ values) = scalar_json table leaf value ∷ keys_json table leafs values
keys_json table leafs values = []

-- the value of a leaf or of an entry of a leaf-list, if there is a node
abbrev pub value_json : SchemaTable → Option ℕ → Value → Data
value_json table here value = option_map_or (λ n. scalar_json table n value) here null

-- the step, after the node
abbrev pub step_json : SchemaTable → Option ℕ → Step → Data
step_json table here (Node n) = number (unsigned n)
step_json table here (Key values) = array (items_of (option_map_or (λ n. keys_json table (keys_of table n) values) here []))
step_json table here (Item value) = object (member (codes "item") (value_json table here value) no_members)

abbrev pub steps_json : SchemaTable → Option ℕ → List Step → List Data
steps_json table here [] = []
steps_json table here (step ∷ steps) = step_json table here step ∷ steps_json table (node_from here (step ∷ [])) steps

abbrev pub path_json : SchemaTable → List Step → Data
path_json table path = array (items_of (steps_json table None path))

abbrev pub cell_json : SchemaTable → Option ℕ → Option Cell → Data
cell_json table here None = null
cell_json table here (Some Mark) = object no_members
cell_json table here (Some (Leaf value)) = value_json table here value

abbrev pub patch_json : SchemaTable → Patch → Data
patch_json table p = array (item (path_json table p.path) (item (cell_json table (node_of p.path) p.cell) no_items))

abbrev pub store_json : SchemaTable → List Patch → Data
store_json table ps = array (items_of (map (patch_json table) ps))

-- the object with these members
abbrev pub members_json : ℕ → Data → Data → Data
members_json commit config oper = object (member (codes "commit") (number (unsigned commit)) (member (codes "config") config (member (codes "operational") oper no_members)))

abbrev pub frame_json : SchemaTable → Frame → Data
frame_json table f = members_json f.commit (store_json table f.config) (store_json table f.oper)

-- the text of a frame
abbrev pub frame_text : SchemaTable → Frame → List ℕ
frame_text table f = compact_text (frame_json table f)
