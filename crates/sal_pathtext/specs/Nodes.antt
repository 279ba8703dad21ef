-- The nodes of names, and which values identify the entries of lists and leaf-lists.
use Rattle.std.specs.Prelude.{ℕ, Bool, ◌==◌, List, [], ◌∷◌, Option, Some, None, option_map, option_and_then, find, Result, Err, if◌then◌else◌}
use Rattle.std.specs.List.{list_any}
use Rattle.std.specs.Option.{option_map_or}
use Rattle.sal_types.specs.declared.value.Value.{Value}
use Rattle.sal_types.specs.declared.value.Step.{Step}
use Rattle.sal_types.specs.declared.value.Step.TheVariants.{Key, Item}
use Rattle.sal_schema.specs.declared.table.SchemaTable.{SchemaTable}
use Rattle.sal_schema.specs.Kinds.{is_leaf_list}
use Rattle.sal_schema.specs.Names.{child_of}
use Rattle.sal_schema.specs.Table.{is_among, is_kind, keys_of, module_of, type_of}
use Rattle.sal_schema.specs.Valid.{text_eq}
use Rattle.sal_schema.specs.Lookups.{own_module}
use Rattle.sal_json.specs.declared.fault.ScalarFault.{ScalarFault}
use Rattle.sal_json.specs.declared.fault.ScalarFault.TheVariants.{WrongKind}
use Rattle.sal_json.specs.Read.{text_scalar_of}
use Rattle.sal_json.specs.Written.{text_of}
use Rattle.sal_pathtext.specs.declared.given.Given.{Given}
use Rattle.sal_pathtext.specs.Words.{Name}

abbrev pub is_for : ℕ → Given → Bool
is_for leaf given = given.leaf == leaf

-- the value of a leaf
abbrev pub value_given : List Given → ℕ → Option Value
value_given given leaf = option_map (λ (one : Given). one.value) (find (is_for leaf) given)

abbrev pub with_value : Value → Option (List Value) → Option (List Value)
with_value value None = None
with_value value (Some values) = Some (value ∷ values)

-- the values of these leafs, if each has one
abbrev pub values_given : List Given → List ℕ → Option (List Value)
values_given given [] = Some []
values_given given (leaf ∷ leafs) = option_and_then (λ value. with_value value (values_given given leafs)) (value_given given leaf)

-- the leaf of a predicate, if it has no value yet
abbrev pub not_given : List Given → Option ℕ → Option ℕ
not_given given None = None
not_given given (Some leaf) = if list_any (is_for leaf) given then None else Some leaf

module _ (table : SchemaTable) where
  -- The data node of a name, below a node or at the top. A name at the top has its module, and one below a node
  -- exactly if its module differs from that node's.
  abbrev pub meant : Option ℕ → Name → Option ℕ
  meant None (None, name) = None
  meant None (Some m, name) = child_of table None m name
  meant (Some p) (None, name) = child_of table (Some p) (own_module table p) name
  meant (Some p) (Some m, name) = if text_eq m (own_module table p) then None else child_of table (Some p) m name

  -- ---- entries

  -- the node of `.` in a predicate: a leaf-list itself
  abbrev pub dot_meant : ℕ → Option ℕ
  dot_meant n = if is_kind is_leaf_list table n then Some n else None

  abbrev pub if_key : ℕ → ℕ → Option ℕ
  if_key n leaf = if is_among leaf (keys_of table n) then Some leaf else None

  -- the node of a name in a predicate: a key of the list
  abbrev pub key_meant : ℕ → Name → Option ℕ
  key_meant n name = option_and_then (if_key n) (meant (Some n) name)

  -- the step to the entry with these values: that of a leaf-list, or those of all keys of a list in order
  abbrev pub entry_given : ℕ → List Given → Option Step
  entry_given n given =
      if is_kind is_leaf_list table n then option_map Item (value_given given n) else option_map Key (values_given given (keys_of table n))

  -- ---- values

  -- the value of a leaf or leaf-list that a text denotes
  abbrev pub value_of : ℕ → List ℕ → Result Value ScalarFault
  value_of leaf t = option_map_or (λ m. option_map_or (λ ty. text_scalar_of table ty m t) (type_of table leaf) (Err WrongKind)) (module_of table leaf) (Err WrongKind)

  -- the text of a value of it
  abbrev pub value_text : ℕ → Value → List ℕ
  value_text leaf value = option_map_or (λ m. option_map_or (λ ty. text_of table ty m value) (type_of table leaf) []) (module_of table leaf) []
