-- How a path is written: one spelling for each.
use Rattle.std.specs.Prelude.{ℕ, Bool, not, ◌==◌, List, [], ◌∷◌, ◌++◌, Option, Some, None, flat_map, codes, if◌then◌else◌}
use Rattle.std.specs.List.{list_any}
use Rattle.std.specs.Option.{option_map_or}
use Rattle.sal_types.specs.declared.value.Value.{Value}
use Rattle.sal_types.specs.declared.value.Step.{Step}
use Rattle.sal_types.specs.declared.value.Step.TheVariants.{Node, Key, Item}
use Rattle.sal_schema.specs.declared.table.SchemaTable.{SchemaTable}
use Rattle.sal_schema.specs.Table.{keys_of, name_of}
use Rattle.sal_schema.specs.Valid.{text_eq}
use Rattle.sal_schema.specs.Lookups.{own_module, full_name}
use Rattle.sal_pathtext.specs.Words.{is_double_quote}
use Rattle.sal_pathtext.specs.Nodes.{value_text}

-- ---- quotes

abbrev pub is_quote : ℕ → Bool
is_quote c = c == 39

abbrev pub doubled : List ℕ → List ℕ
doubled t = flat_map (λ c. if is_quote c then c ∷ c ∷ [] else c ∷ []) t

-- in single quotes, unless it has one; in double quotes, unless it has one of each; else its single quotes are doubled
abbrev pub in_quotes : List ℕ → List ℕ
in_quotes t =
    if not (list_any is_quote t) then 39 ∷ t ++ 39 ∷ []
    else if not (list_any is_double_quote t) then 34 ∷ t ++ 34 ∷ []
    else 39 ∷ doubled t ++ 39 ∷ []

-- the parent of the next step
abbrev pub behind : Option ℕ → Step → Option ℕ
behind here (Node n) = Some n
behind here step = here

module _ (table : SchemaTable) where
  -- the name of a node below another, or at the top
  abbrev pub name_text : Option ℕ → ℕ → List ℕ
  name_text None n = full_name table n
  name_text (Some p) n = if text_eq (own_module table n) (own_module table p) then name_of table n else full_name table n

  -- a value in a predicate, and the predicate's end
  abbrev pub said_text : ℕ → Value → List ℕ
  said_text leaf value = 61 ∷ in_quotes (value_text table leaf value) ++ 93 ∷ []

  -- the predicate of a key, and that of a leaf-list entry
  abbrev pub key_text : ℕ → ℕ → Value → List ℕ
  key_text n leaf value = 91 ∷ name_text (Some n) leaf ++ said_text leaf value

  abbrev pub item_text : ℕ → Value → List ℕ
  item_text n value = 91 ∷ 46 ∷ said_text n value

  -- a predicate for each key of the list, in order
  abbrev pub keys_text : ℕ → List ℕ → List Value → List ℕ
  keys_text n (leaf ∷ leafs) (value ∷ values) = key_text n leaf value ++ keys_text n leafs values
  keys_text n leafs values = []

  abbrev pub entry_text : ℕ → Step → List ℕ
  entry_text n (Key values) = keys_text n (keys_of table n) values
  entry_text n (Item value) = item_text n value
  entry_text n step = []

  -- a step below a node, or at the top
  abbrev pub step_text : Option ℕ → Step → List ℕ
  step_text here (Node n) = 47 ∷ name_text here n
  step_text here step = option_map_or (λ n. entry_text n step) here []

  abbrev pub steps_text : Option ℕ → List Step → List ℕ
  steps_text here [] = []
  steps_text here (step ∷ steps) = step_text here step ++ steps_text (behind here step) steps

-- the text of a path
abbrev pub written : SchemaTable → List Step → List ℕ
written table [] = codes "/"
written table (step ∷ steps) = steps_text table None (step ∷ steps)
