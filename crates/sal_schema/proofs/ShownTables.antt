-- A table that is written out passes the tests of tables by computation.
use Rattle.std.proofs.Common.{◌≡◌, Bool, true, ◌&&◌, IsTrue}
use Rattle.std.specs.List.{list_all}
use Rattle.sal_schema.specs.declared.kind.Kind.TheVariants.{Rpc, Notification}
use Rattle.sal_schema.specs.declared.table.NodeInfo.{NodeInfo}
use Rattle.sal_schema.specs.declared.table.SchemaTable.{SchemaTable}
use Rattle.sal_schema.specs.Names.{are_distinct, module_names, identity_names, data_names, kind_names}
use Rattle.sal_schema.specs.Table.{all_from}
use Rattle.sal_schema.specs.Valid.{IsTable, IsSmall, has_numbers, stands_right, is_identifier, has_its_type, has_its_keys, has_its_uniques, is_good_identity, is_good_type}
use Rattle.sal_schema.proofs.Conjuncts.{and_first, and_second}

abbrev have_places : SchemaTable → Bool
have_places table = all_from (has_numbers table) 0 table.nodes && list_all (stands_right table) table.nodes

abbrev have_types : SchemaTable → Bool
have_types table = list_all (λ (node : NodeInfo). is_identifier node.name) table.nodes && list_all has_its_type table.nodes

abbrev have_keys : SchemaTable → Bool
have_keys table = all_from (has_its_keys table) 0 table.nodes && all_from (has_its_uniques table) 0 table.nodes

abbrev have_names : SchemaTable → Bool
have_names table = list_all is_identifier table.modules && all_from (is_good_identity table) 0 table.identities

abbrev name_one : SchemaTable → Bool
name_one table =
    (are_distinct (module_names table) && are_distinct (identity_names table))
    && ((are_distinct (kind_names Rpc table) && are_distinct (kind_names Notification table)) && are_distinct (data_names table))

-- all tests but those of types
abbrev pub passes : SchemaTable → Bool
passes table = ((have_places table && have_types table) && (have_keys table && have_names table)) && name_one table

pub shown : (table : SchemaTable) → IsSmall table → passes table ≡ true → IsTrue (list_all (is_good_type table) table.types) → IsTable table
shown table small pass types =
    let parts = and_first ((have_places table && have_types table) && (have_keys table && have_names table)) (name_one table) pass in
    let distinct = and_second ((have_places table && have_types table) && (have_keys table && have_names table)) (name_one table) pass in
    let nodes = and_first (have_places table && have_types table) (have_keys table && have_names table) parts in
    let others = and_second (have_places table && have_types table) (have_keys table && have_names table) parts in
    let first = and_first (have_places table) (have_types table) nodes in
    let second = and_second (have_places table) (have_types table) nodes in
    let third = and_first (have_keys table) (have_names table) others in
    let fourth = and_second (have_keys table) (have_names table) others in
    let owners = and_first (are_distinct (module_names table) && are_distinct (identity_names table)) _ distinct in
    let calls_and_data = and_second (are_distinct (module_names table) && are_distinct (identity_names table)) _ distinct in
    let calls = and_first (are_distinct (kind_names Rpc table) && are_distinct (kind_names Notification table)) _ calls_and_data in
    record {
      small = small;
      numbers = and_first (all_from (has_numbers table) 0 table.nodes) _ first;
      places = and_second (all_from (has_numbers table) 0 table.nodes) _ first;
      names = and_first (list_all (λ (node : NodeInfo). is_identifier node.name) table.nodes) _ second;
      leaf_types = and_second (list_all (λ (node : NodeInfo). is_identifier node.name) table.nodes) _ second;
      keys = and_first (all_from (has_its_keys table) 0 table.nodes) _ third;
      uniques = and_second (all_from (has_its_keys table) 0 table.nodes) _ third;
      module_names = and_first (list_all is_identifier table.modules) _ fourth;
      identities = and_second (list_all is_identifier table.modules) _ fourth;
      types = types;
      distinct = record {
        modules = and_first (are_distinct (module_names table)) _ owners;
        identities = and_second (are_distinct (module_names table)) _ owners;
        rpcs = and_first (are_distinct (kind_names Rpc table)) _ calls;
        notifications = and_second (are_distinct (kind_names Rpc table)) _ calls;
        data_nodes = and_second (are_distinct (kind_names Rpc table) && are_distinct (kind_names Notification table)) _ calls_and_data;
      };
    }
