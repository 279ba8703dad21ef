-- The names of a table as keys, by which two of one name are found.
use Rattle.std.specs.Prelude.{ℕ, Bool, List, [], ◌∷◌, Option, None, if◌then◌else◌}
use Rattle.std.specs.Ordering.{eq_by_cmp}
use Rattle.std.specs.declared.cmp.Ordering.{Ordering}
use Rattle.sal_schema.specs.declared.kind.Kind.{Kind}
use Rattle.sal_schema.specs.declared.table.NodeInfo.{NodeInfo}
use Rattle.sal_schema.specs.declared.table.IdentityInfo.{IdentityInfo}
use Rattle.sal_schema.specs.declared.table.SchemaTable.{SchemaTable}
use Rattle.sal_schema.specs.Kinds.{kind_eq, is_data}
use Rattle.sal_schema.specs.Table.{data_node}
use Rattle.sal_schema.specs.Valid.{all_differ}
use Rattle.sal_schema_of_table.specs.declared.names.Key.{Key}
use Rattle.sal_schema_of_table.specs.contracts.names.KeyOrd.TheImpl as key_ord

abbrev pub key_cmp : Key → Key → Ordering
key_cmp = (key_ord.ghosts).cmp

abbrev pub same_key : Key → Key → Bool
same_key = eq_by_cmp key_cmp

abbrev pub key : Option ℕ → ℕ → List ℕ → Key
key parent m text = record { parent = parent; «module» = m; text = text }

-- no two are the same
abbrev pub differ : List Key → Bool
differ = all_differ same_key

abbrev pub module_key : List ℕ → List Key
module_key text = key None 0 text ∷ []

abbrev pub identity_key : IdentityInfo → List Key
identity_key identity = key None identity.module identity.name ∷ []

-- of a node of the kind
abbrev pub kind_key : Kind → NodeInfo → List Key
kind_key kind node = if kind_eq node.kind kind then key None node.module node.name ∷ [] else []

-- of a node for data, below its data parent
abbrev pub data_key : SchemaTable → NodeInfo → List Key
data_key table node = if is_data node.kind then key (data_node table node.parent) node.module node.name ∷ [] else []
