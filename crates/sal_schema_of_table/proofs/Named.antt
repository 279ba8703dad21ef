-- The names of a table and their keys.
use Rattle.std.proofs.Common.{◌≡◌, ℕ, ◌+◌, true, false, cond, not, ◌&&◌, List, [], ◌∷◌, ◌++◌, map, refl, sym, ap, ◌∙◌}
use Rattle.std.specs.Prelude.{◌||◌, None}
use Rattle.std.specs.List.{list_any, flat_map}
use Rattle.std.specs.Cmp.{IsEquivalence, eq_by_cmp_equiv}
use Rattle.sal_schema.specs.declared.kind.Kind.{Kind}
use Rattle.sal_schema.specs.declared.names.Named.{Named}
use Rattle.sal_schema.specs.declared.table.NodeInfo.{NodeInfo}
use Rattle.sal_schema.specs.declared.table.SchemaTable.{SchemaTable}
use Rattle.sal_schema.specs.Kinds.{kind_eq, is_data}
use Rattle.sal_schema.specs.Names.{are_distinct, is_called, module_at, identity_at, kind_at, data_at, module_names, identity_names, kind_names, data_names, named}
use Rattle.sal_schema.specs.Table.{each_from, data_node}
use Rattle.sal_schema_of_table.specs.declared.names.Key.{Key}
use Rattle.sal_schema_of_table.specs.contracts.names.KeyOrd.TheImpl.Laws as key_ord_laws
use Rattle.sal_schema_of_table.specs.Keys.{same_key, key, differ, module_key, identity_key, kind_key, data_key}

same_key-IsEquivalence : IsEquivalence same_key
same_key-IsEquivalence = eq_by_cmp_equiv key_ord_laws.total-law

abbrev key_of : Named → Key
key_of entry = key entry.name.parent entry.name.module entry.name.text

same_name : (one other : Named) → same_key (key_of one) (key_of other) ≡ is_called one.name other
same_name one other = same_key-IsEquivalence.symm (key_of one) (key_of other)

any_named : (one : Named) (names : List Named) → list_any (same_key (key_of one)) (map key_of names) ≡ list_any (is_called one.name) names
any_named one [] = refl
any_named one (other ∷ names) = λ i. same_name one other i || any_named one names i

differ-named : (names : List Named) → differ (map key_of names) ≡ are_distinct names
differ-named [] = refl
differ-named (one ∷ names) = λ i. not (any_named one names i) && differ-named names i

map_append : (xs ys : List Named) → map key_of (xs ++ ys) ≡ map key_of xs ++ map key_of ys
map_append [] ys = refl
map_append (x ∷ xs) ys = ap (λ zs. key_of x ∷ zs) (map_append xs ys)

module _ {X : Type 0} (f : ℕ → X → List Named) (g : X → List Key) (same : (i : ℕ) (x : X) → map key_of (f i x) ≡ g x) where
  keys-are : (i : ℕ) (xs : List X) → map key_of (each_from f i xs) ≡ flat_map g xs
  keys-are i [] = refl
  keys-are i (x ∷ xs) = map_append (f i x) (each_from f (i + 1) xs) ∙ (λ j. same i x j ++ keys-are (i + 1) xs j)

  keys-differ : (xs : List X) → differ (flat_map g xs) ≡ are_distinct (each_from f 0 xs)
  keys-differ xs = ap differ (sym (keys-are 0 xs)) ∙ differ-named (each_from f 0 xs)

pub modules-differ : (table : SchemaTable) → differ (flat_map module_key table.modules) ≡ are_distinct (module_names table)
modules-differ table = keys-differ module_at module_key (λ i text. refl) table.modules

pub identities-differ : (table : SchemaTable) → differ (flat_map identity_key table.identities) ≡ are_distinct (identity_names table)
identities-differ table = keys-differ identity_at identity_key (λ i identity. refl) table.identities

kind-same : (kind : Kind) (i : ℕ) (node : NodeInfo) → map key_of (kind_at kind i node) ≡ kind_key kind node
kind-same kind i node =
    elim (kind_eq node.kind kind) as (λ b. map key_of (cond b (named None node.module node.name i ∷ []) []) ≡ cond b (key None node.module node.name ∷ []) []) [ true ↦ refl | false ↦ refl ]

pub kinds-differ : (table : SchemaTable) (kind : Kind) → differ (flat_map (kind_key kind) table.nodes) ≡ are_distinct (kind_names kind table)
kinds-differ table kind = keys-differ (kind_at kind) (kind_key kind) (kind-same kind) table.nodes

data-same : (table : SchemaTable) (i : ℕ) (node : NodeInfo) → map key_of (data_at table i node) ≡ data_key table node
data-same table i node =
    elim (is_data node.kind) as (λ b. map key_of (cond b (named (data_node table node.parent) node.module node.name i ∷ []) []) ≡ cond b (key (data_node table node.parent) node.module node.name ∷ []) []) [ true ↦ refl | false ↦ refl ]

pub data-differ : (table : SchemaTable) → differ (flat_map (data_key table) table.nodes) ≡ are_distinct (data_names table)
data-differ table = keys-differ (data_at table) (data_key table) (data-same table) table.nodes
