-- The text of a table: a line for each node.
use Rattle.std.specs.Prelude.{ℕ, Bool, true, false, List, [], ◌∷◌, ◌++◌, Option, Some, None, option_and_then, codes, if◌then◌else◌}
use Rattle.std.specs.Fmt.{decimal}
use Rattle.std.specs.List.{flat_map, slice_get}
use Rattle.std.specs.Option.{option_map_or}
use Rattle.sal_restrict.specs.Names.{builtin_name}
use Rattle.sal_schema.specs.declared.table.NodeInfo.{NodeInfo}
use Rattle.sal_schema.specs.declared.table.SchemaTable.{SchemaTable}
use Rattle.sal_schema.specs.Kinds.{word, is_list}
use Rattle.sal_schema.specs.Table.{each_from, name_of, module_name}

-- a number, or a dash if there is none
abbrev pub number_word : Option ℕ → List ℕ
number_word None = codes "-"
number_word (Some n) = decimal n

abbrev pub config_word : Option Bool → List ℕ
config_word None = codes "-"
config_word (Some true) = codes "config"
config_word (Some false) = codes "state"

-- a space and a word
abbrev pub next_word : List ℕ → List ℕ
next_word text = 32 ∷ text

-- of a leaf or leaf-list the name of its built-in type
abbrev pub type_words : SchemaTable → Option ℕ → List ℕ
type_words table ty = option_map_or (λ ty. next_word (builtin_name ty)) (option_and_then (slice_get table.types) ty) []

-- of a list `key` and the names of its keys
abbrev pub key_words : SchemaTable → NodeInfo → List ℕ
key_words table node = if is_list node.kind then codes " key" ++ flat_map (λ leaf. next_word (name_of table leaf)) node.keys else []

-- number, parent and kind of a node
abbrev pub head_of : ℕ → NodeInfo → List ℕ
head_of n node = decimal n ++ next_word (number_word node.parent) ++ next_word (word node.kind)

-- its name with its module, and whether it is configuration
abbrev pub middle_of : SchemaTable → NodeInfo → List ℕ
middle_of table node = next_word (module_name table node.module) ++ 58 ∷ node.name ++ next_word (config_word node.config)

-- its type or its keys
abbrev pub tail_of : SchemaTable → NodeInfo → List ℕ
tail_of table node = type_words table node.ty ++ key_words table node ++ 10 ∷ []

abbrev pub line_of : SchemaTable → ℕ → NodeInfo → List ℕ
line_of table n node = head_of n node ++ middle_of table node ++ tail_of table node

abbrev pub table_text : SchemaTable → List ℕ
table_text table = each_from (line_of table) 0 table.nodes
