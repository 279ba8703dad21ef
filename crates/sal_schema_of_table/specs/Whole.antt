-- The test of a table, part by part.
use Rattle.std.specs.Prelude.{ℕ, ◌-◌, ◌^◌, pos, negsuc, Bool, true, false, not, ◌&&◌, nat_lt, List, length, Some}
use Rattle.std.specs.List.{list_all}
use Rattle.sal_restrict.specs.declared.ranges.Part.{Part}
use Rattle.sal_restrict.specs.declared.yang_type.YangType.{YangType, out-YangType}
use Rattle.sal_schema.specs.declared.kind.Kind.TheVariants.{Rpc, Notification}
use Rattle.sal_schema.specs.declared.table.NodeInfo.{NodeInfo}
use Rattle.sal_schema.specs.declared.table.SchemaTable.{SchemaTable}
use Rattle.sal_schema.specs.Kinds.{is_leaf}
use Rattle.sal_schema.specs.Names.{are_distinct, module_names, identity_names, data_names, kind_names}
use Rattle.sal_schema.specs.Table.{all_from, is_kind, is_same, parent_of, list_above}
use Rattle.sal_schema.specs.Valid.{has_numbers, stands_right, is_identifier, has_its_type, has_its_keys, has_its_uniques, is_good_identity, is_good_type, is_good_layer, is_empty, are_named}

-- ---- a node

abbrev pub is_key_leaf : SchemaTable → ℕ → ℕ → Bool
is_key_leaf table list leaf = is_kind is_leaf table leaf && is_same (parent_of table leaf) (Some list)

abbrev pub is_unique_leaf : SchemaTable → ℕ → ℕ → Bool
is_unique_leaf table list leaf = is_kind is_leaf table leaf && is_same (list_above table leaf) (Some list)

-- all that is required of a node, except that its name means it alone
abbrev pub is_good_node : SchemaTable → ℕ → NodeInfo → Bool
is_good_node table n node =
    ((((has_numbers table n node && stands_right table node) && is_identifier node.name) && has_its_type node) && has_its_keys table n node)
    && has_its_uniques table n node

-- ---- a type

-- the least and the greatest whole number of this many bits
abbrev pub bounds : ℕ → Bool → Part
bounds bits true = record { low = negsuc (2 ^ (bits - 1) - 1); high = pos (2 ^ (bits - 1) - 1) }
bounds bits false = record { low = pos 0; high = pos (2 ^ bits - 1) }

abbrev pub are_good_bits : List (List ℕ) → List ℕ → Bool
are_good_bits names positions = (are_named names positions && list_all is_identifier names) && list_all (λ p. nat_lt p 64) positions

abbrev pub is_good_member : SchemaTable → YangType → Bool
is_good_member table ty = is_good_layer table (out-YangType ty)

abbrev pub are_good_members : SchemaTable → List YangType → Bool
are_good_members table members = not (is_empty members) && list_all (is_good_member table) members

-- ---- the table

abbrev pub is_small : SchemaTable → Bool
is_small table =
    ((nat_lt (length table.nodes) (2 ^ 32) && nat_lt (length table.types) (2 ^ 32)) && nat_lt (length table.modules) (2 ^ 32))
    && nat_lt (length table.identities) (2 ^ 32)

abbrev pub has_distinct_names : SchemaTable → Bool
has_distinct_names table =
    (((are_distinct (module_names table) && are_distinct (identity_names table)) && are_distinct (kind_names Rpc table)) && are_distinct (kind_names Notification table))
    && are_distinct (data_names table)

abbrev pub is_table : SchemaTable → Bool
is_table table =
    ((((is_small table && list_all is_identifier table.modules) && all_from (is_good_identity table) 0 table.identities) && all_from (is_good_node table) 0 table.nodes)
    && list_all (is_good_type table) table.types)
    && has_distinct_names table
