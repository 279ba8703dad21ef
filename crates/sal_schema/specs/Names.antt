-- Names, and their numbers in a table.
use Rattle.std.specs.Prelude.{◌≡◌, refl, ℕ, Bool, true, false, not, ◌&&◌, List, [], ◌∷◌, Option, None, MatchOption, option_map, option_and_then, find, Contains, if◌then◌else◌}
use Rattle.std.specs.List.{list_any}
use Rattle.std.specs.Ordering.{is_eq, on, eq_by_cmp, as_partial_cmp}
use Rattle.std.specs.Cmp.{IsTotalOrder, IsEquivalence, IsPartialOrder, on_total, eq_by_cmp_equiv, partial_order_from_agreeing_total}
use Rattle.std.specs.declared.cmp.Ordering.{Ordering}
use Rattle.sal_schema.specs.declared.kind.Kind.{Kind}
use Rattle.sal_schema.specs.declared.kind.Kind.TheVariants.{Rpc, Notification}
use Rattle.sal_schema.specs.declared.names.Name.{Name}
use Rattle.sal_schema.specs.declared.names.Named.{Named}
use Rattle.sal_schema.specs.declared.table.NodeInfo.{NodeInfo}
use Rattle.sal_schema.specs.declared.table.IdentityInfo.{IdentityInfo}
use Rattle.sal_schema.specs.declared.table.SchemaTable.{SchemaTable}
use Rattle.sal_schema.specs.contracts.names.NameOrd.TheImpl as name_ord
use Rattle.sal_schema.specs.contracts.names.NameOrd.TheImpl.Laws as name_ord_laws
use Rattle.sal_schema.specs.Kinds.{kind_eq, is_data}
use Rattle.sal_schema.specs.Table.{each_from, data_node}

abbrev pub name_cmp : Name → Name → Ordering
name_cmp = (name_ord.ghosts).cmp

abbrev pub name_of_parts : Option ℕ → ℕ → List ℕ → Name
name_of_parts parent m text = record { parent = parent; «module» = m; text = text }

abbrev pub named : Option ℕ → ℕ → List ℕ → ℕ → Named
named parent m text n = record { name = name_of_parts parent m text; number = n }

abbrev pub is_called : Name → Named → Bool
is_called name entry = is_eq (name_cmp entry.name name)

-- the number of the name
abbrev pub lookup : List Named → Name → Option ℕ
lookup names name = option_map (λ (entry : Named). entry.number) (find (is_called name) names)

-- no name has two numbers
abbrev pub are_distinct : List Named → Bool
are_distinct [] = true
are_distinct (entry ∷ names) = not (list_any (is_called entry.name) names) && are_distinct names

-- the result of a search for a name: the number of an entry with it, or none if there is none
abbrev pub Finds : List Named → Name → Option ℕ → Type 0
Finds names name answer =
    MatchOption answer (list_any (is_called name) names ≡ false)
    (λ n. (entry : Named) × Contains names entry × (is_called name entry ≡ true) × (entry.number ≡ n))

-- ---- the order of names

abbrev pub named_cmp : Named → Named → Ordering
named_cmp = on (λ (entry : Named). entry.name) name_cmp

pub name_cmp-IsTotalOrder : IsTotalOrder name_cmp
name_cmp-IsTotalOrder = name_ord_laws.total-law

pub named_cmp-IsTotalOrder : IsTotalOrder named_cmp
named_cmp-IsTotalOrder = on_total (λ (entry : Named). entry.name) name_cmp-IsTotalOrder

pub same_name-IsEquivalence : IsEquivalence (eq_by_cmp named_cmp)
same_name-IsEquivalence = eq_by_cmp_equiv named_cmp-IsTotalOrder

pub named_cmp-IsPartialOrder : IsPartialOrder (eq_by_cmp named_cmp) (as_partial_cmp named_cmp)
named_cmp-IsPartialOrder = partial_order_from_agreeing_total named_cmp named_cmp-IsTotalOrder (λ x y. refl) (λ x y. refl)

-- ---- the names of a table

abbrev pub module_at : ℕ → List ℕ → List Named
module_at m text = named None 0 text m ∷ []

abbrev pub module_names : SchemaTable → List Named
module_names table = each_from module_at 0 table.modules

abbrev pub identity_at : ℕ → IdentityInfo → List Named
identity_at i identity = named None identity.module identity.name i ∷ []

abbrev pub identity_names : SchemaTable → List Named
identity_names table = each_from identity_at 0 table.identities

-- of the nodes for data, each below its data parent
abbrev pub data_at : SchemaTable → ℕ → NodeInfo → List Named
data_at table n node = if is_data node.kind then named (data_node table node.parent) node.module node.name n ∷ [] else []

abbrev pub data_names : SchemaTable → List Named
data_names table = each_from (data_at table) 0 table.nodes

-- of the nodes of a kind, all together
abbrev pub kind_at : Kind → ℕ → NodeInfo → List Named
kind_at kind n node = if kind_eq node.kind kind then named None node.module node.name n ∷ [] else []

abbrev pub kind_names : Kind → SchemaTable → List Named
kind_names kind table = each_from (kind_at kind) 0 table.nodes

-- ---- look-ups by name

-- the number of the module with this name
abbrev pub module_called : SchemaTable → List ℕ → Option ℕ
module_called table text = lookup (module_names table) (name_of_parts None 0 text)

-- the number of this name in a module, below a parent or at the top
abbrev pub found : SchemaTable → List Named → Option ℕ → List ℕ → List ℕ → Option ℕ
found table names parent m text = option_and_then (λ k. lookup names (name_of_parts parent k text)) (module_called table m)

-- the node for data of this name below the parent; the search goes through choices and cases
abbrev pub child_of : SchemaTable → Option ℕ → List ℕ → List ℕ → Option ℕ
child_of table parent m text = found table (data_names table) parent m text

abbrev pub rpc_of : SchemaTable → List ℕ → List ℕ → Option ℕ
rpc_of table m text = found table (kind_names Rpc table) None m text

abbrev pub notification_of : SchemaTable → List ℕ → List ℕ → Option ℕ
notification_of table m text = found table (kind_names Notification table) None m text

abbrev pub identity_of : SchemaTable → List ℕ → List ℕ → Option ℕ
identity_of table m text = found table (identity_names table) None m text
