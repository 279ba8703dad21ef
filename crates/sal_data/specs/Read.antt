-- Which rows a JSON value denotes, or the first fault in it (RFC 7951 sections 4 and 5).
use Rattle.std.specs.Prelude.{ℕ, ◌-◌, Bool, true, false, List, [], ◌∷◌, ◌++◌, length, take, Option, Some, None, Result, Ok, Err, fold, nat_lt, if◌then◌else◌}
use Rattle.std.specs.List.{list_any}
use Rattle.std.specs.Option.{option_map_or}
use Rattle.std.specs.Ordering.{eq_by_cmp}
use Rattle.serde_json.specs.Data.{Data, null, boolean, number, string, array, object, Items, no_items, item, Members, no_members, member}
use Rattle.serde_json.specs.Find.{as_object, get_member}
use Rattle.sal_types.specs.declared.value.Value.{Value}
use Rattle.sal_types.specs.declared.value.Cell.TheVariants.{Mark, Leaf}
use Rattle.sal_types.specs.declared.value.Step.{Step}
use Rattle.sal_types.specs.declared.value.Step.TheVariants.{Node, Key, Item}
use Rattle.sal_types.specs.declared.row.Row.{Row}
use Rattle.sal_types.specs.Order.{step_cmp}
use Rattle.sal_types.specs.Reading.{◌>>=◌}
use Rattle.sal_rows.specs.Edits.{set_row}
use Rattle.sal_schema.specs.declared.table.SchemaTable.{SchemaTable}
use Rattle.sal_schema.specs.Kinds.{is_leaf, is_leaf_list, is_list, has_entries, is_presence}
use Rattle.sal_schema.specs.Table.{is_kind, keys_of, type_of, module_of}
use Rattle.sal_schema.specs.Paths.{last_step, node_of}
use Rattle.sal_json.specs.declared.fault.ScalarFault.{ScalarFault}
use Rattle.sal_json.specs.declared.fault.ScalarFault.TheVariants.{WrongKind}
use Rattle.sal_json.specs.Read.{scalar_of}
use Rattle.sal_data.specs.declared.fault.DataFault.{DataFault}
use Rattle.sal_data.specs.declared.fault.DataFault.TheVariants.{WrongShape, MissingKey, KeyDiffers, DoubleEntry, BadScalar, TooDeep}
use Rattle.sal_data.specs.Members.{member_name, member_node}

-- the result of reading: rows in the order of the text, or the first fault
abbrev pub Reading : Type 0
Reading = Result (List Row) DataFault

-- rows, and those that are read after them
abbrev pub followed : List Row → Reading → Reading
followed rows rest = rest >>= λ more. Ok (rows ++ more)

-- a mark at the path, if it has one, and the rows below it
abbrev pub marked : Bool → List Step → Reading → Reading
marked true path rest = followed (record { path = path; cell = Mark } ∷ []) rest
marked false path rest = rest

-- a path has at most 32 steps
abbrev pub longer : List Step → Step → Result (List Step) DataFault
longer path step = if nat_lt (length path) 32 then Ok (path ++ step ∷ []) else Err (TooDeep path)

-- ---- values

-- a fault of a value, at the path
abbrev pub at_path : {X : Type 0} → List Step → Result X ScalarFault → Result X DataFault
at_path path (Ok x) = Ok x
at_path path (Err fault) = Err (BadScalar path fault)

-- the value of the type of a leaf or leaf-list
abbrev pub node_scalar : SchemaTable → ℕ → Data → Result Value ScalarFault
node_scalar table n json = option_map_or (λ ty. option_map_or (λ m. scalar_of table ty m json) (module_of table n) (Err WrongKind)) (type_of table n) (Err WrongKind)

abbrev pub leaf_rows : SchemaTable → ℕ → List Step → Data → Reading
leaf_rows table n path json = at_path path (node_scalar table n json) >>= λ value. Ok (record { path = path; cell = Leaf value } ∷ [])

-- ---- which entry it is

-- the value of a key, from the members of the entry
abbrev pub key_value : SchemaTable → ℕ → List Step → Members → ℕ → Result Value DataFault
key_value table n path ms leaf =
    option_map_or (λ json. at_path path (node_scalar table leaf json)) (get_member (member_name table (Some n) leaf) ms) (Err (MissingKey path))

-- the values of the keys, in key order
abbrev pub key_values : SchemaTable → ℕ → List Step → Members → List ℕ → Result (List Value) DataFault
key_values table n path ms [] = Ok []
key_values table n path ms (leaf ∷ leafs) = key_value table n path ms leaf >>= λ value. (key_values table n path ms leafs >>= λ values. Ok (value ∷ values))

-- the step to an entry of the list at the path
abbrev pub key_step : SchemaTable → ℕ → List Step → Data → Result Step DataFault
key_step table n path json =
    option_map_or (λ ms. key_values table n path ms (keys_of table n) >>= λ values. Ok (Key values)) (as_object json) (Err (WrongShape path))

-- the step to an entry of the leaf-list at the path
abbrev pub item_step : SchemaTable → ℕ → List Step → Data → Result Step DataFault
item_step table n path json = at_path path (node_scalar table n json) >>= λ value. Ok (Item value)

abbrev pub same_step : Step → Step → Bool
same_step = eq_by_cmp step_cmp

-- the entries so far and one more at the path, which is none of them
abbrev pub one_more : List Step → Step → List Step → Result (List Step) DataFault
one_more seen step path = if list_any (same_step step) seen then Err (DoubleEntry path) else Ok (step ∷ seen)

-- the entries of the leaf-list at the path
abbrev pub items_rows : SchemaTable → ℕ → List Step → List Step → Items → Reading
items_rows table n path seen no_items = Ok []
items_rows table n path seen (item json items) =
    item_step table n path json
    >>= (λ step. longer path step
    >>= (λ below. one_more seen step below
    >>= (λ now. marked true below (items_rows table n path now items))))

-- ---- trees

-- an array at lists and leaf-lists, and an object at the other nodes that are no leafs
abbrev pub of_array : SchemaTable → ℕ → List Step → Data → Reading → Reading → Reading
of_array table n path json entries items =
    if is_kind is_leaf table n then leaf_rows table n path json
    else if is_kind is_list table n then entries
    else if is_kind is_leaf_list table n then items
    else Err (WrongShape path)

abbrev pub of_object : SchemaTable → ℕ → List Step → Data → Reading → Reading
of_object table n path json members =
    if is_kind is_leaf table n then leaf_rows table n path json
    else if is_kind has_entries table n then Err (WrongShape path)
    else marked (is_kind is_presence table n) path members

abbrev pub of_other : SchemaTable → ℕ → List Step → Data → Reading
of_other table n path json = if is_kind is_leaf table n then leaf_rows table n path json else Err (WrongShape path)

abbrev mutual
  -- the value of the node at the path
  pub node_rows : SchemaTable → ℕ → List Step → Data → Reading
  node_rows table n path null = of_other table n path null
  node_rows table n path (boolean b) = of_other table n path (boolean b)
  node_rows table n path (number x) = of_other table n path (number x)
  node_rows table n path (string t) = of_other table n path (string t)
  node_rows table n path (array items) = of_array table n path (array items) (entries_rows table n path [] items) (items_rows table n path [] items)
  node_rows table n path (object ms) = of_object table n path (object ms) (members_rows table (Some n) path ms)

  -- an object with the children of this node, or the top object
  pub object_rows : SchemaTable → Option ℕ → List Step → Data → Reading
  object_rows table parent path null = Err (WrongShape path)
  object_rows table parent path (boolean b) = Err (WrongShape path)
  object_rows table parent path (number x) = Err (WrongShape path)
  object_rows table parent path (string t) = Err (WrongShape path)
  object_rows table parent path (array items) = Err (WrongShape path)
  object_rows table parent path (object ms) = members_rows table parent path ms

  -- its members, in byte order of their names: each its name first, and then its value
  pub members_rows : SchemaTable → Option ℕ → List Step → Members → Reading
  members_rows table parent path no_members = Ok []
  members_rows table parent path (member name json ms) =
      member_node table parent path name
      >>= (λ n. longer path (Node n)
      >>= (λ below. node_rows table n below json
      >>= (λ rows. followed rows (members_rows table parent path ms))))

  -- the entries of the list at the path, of which some were seen before these
  pub entries_rows : SchemaTable → ℕ → List Step → List Step → Items → Reading
  entries_rows table n path seen no_items = Ok []
  entries_rows table n path seen (item json items) =
      key_step table n path json
      >>= (λ step. longer path step
      >>= (λ below. one_more seen step below
      >>= (λ now. marked true below (object_rows table (Some n) below json)
      >>= (λ rows. followed rows (entries_rows table n path now items)))))

-- ---- the value at a path

-- the path without its last step
abbrev pub before_last : List Step → List Step
before_last path = take (length path - 1) path

-- the rows, if the entry of the JSON value is the requested one
abbrev pub if_asked : List Step → Step → Reading → Step → Reading
if_asked path asked rows step = if same_step step asked then rows else Err (KeyDiffers path)

abbrev pub entry_rows : SchemaTable → List Step → Step → Data → ℕ → Reading
entry_rows table path asked json n = key_step table n (before_last path) json >>= if_asked path asked (marked true path (object_rows table (Some n) path json))

abbrev pub item_rows : SchemaTable → List Step → Step → Data → ℕ → Reading
item_rows table path asked json n = item_step table n (before_last path) json >>= if_asked path asked (marked true path (Ok []))

abbrev pub rows_at : SchemaTable → List Step → Option Step → Data → Reading
rows_at table path None json = object_rows table None path json
rows_at table path (Some (Node n)) json = node_rows table n path json
rows_at table path (Some (Key values)) json = option_map_or (entry_rows table path (Key values) json) (node_of path) (Err (WrongShape path))
rows_at table path (Some (Item value)) json = option_map_or (item_rows table path (Item value) json) (node_of path) (Err (WrongShape path))

-- the rows in the order of their paths
abbrev pub in_order : List Row → List Row
in_order rows = fold set_row [] rows

-- The rows that the JSON value at the path denotes, or its first fault, depth first: at each value its shape, the
-- keys or the value of an entry, another entry than the one of the path, an entry that was there before, and then the
-- members.
abbrev pub read_data : SchemaTable → List Step → Data → Reading
read_data table path json = rows_at table path (last_step path) json >>= λ rows. Ok (in_order rows)
