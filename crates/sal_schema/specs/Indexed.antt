-- The indexes of a schema.
use Rattle.std.specs.Prelude.{◌≡◌, ℕ, ◌<◌, List, length, Option, Some, None, map, slice_index_or, false, if◌then◌else◌}
use Rattle.std.specs.List.{slice_get}
use Rattle.std.specs.Option.{option_map_or}
use Rattle.sal_schema.specs.Kinds.{is_choice_or_case}
use Rattle.std.specs.List.Sorted.{IsPermutation}
use Rattle.std.specs.declared.alloc.Global.{Global}
use Rattle.std.specs.declared.vec.Vec.{Vec}
use Rattle.sal_schema.specs.declared.kind.Kind.TheVariants.{Rpc, Notification}
use Rattle.sal_schema.specs.declared.names.Named.{Named}
use Rattle.sal_schema.specs.declared.table.NodeInfo.{NodeInfo}
use Rattle.sal_schema.specs.declared.table.SchemaTable.{SchemaTable}
use Rattle.sal_schema.specs.Names.{module_names, identity_names, data_names, kind_names}
use Rattle.sal_schema.specs.Table.{children_in, data_node}
use Rattle.sal_schema.specs.Valid.{IsTable}

-- the list at each index has the children of the node of that number
abbrev pub AreChildren : List NodeInfo → List (Vec ℕ Global) → Type 0
AreChildren nodes lists = (k : ℕ) (d : Vec ℕ Global) → k < length nodes → (slice_index_or lists k d).items ≡ children_in 0 nodes (Some k)

-- the data parent of each node
abbrev pub data_parents : SchemaTable → List (Option ℕ)
data_parents table = map (λ (node : NodeInfo). data_node table node.parent) table.nodes

-- The data parent of the children of this node: for a choice and a case the one that was found for them.
abbrev pub passed_over : List NodeInfo → List (Option ℕ) → Option ℕ → Option ℕ
passed_over nodes done None = None
passed_over nodes done (Some p) =
    if option_map_or (λ (node : NodeInfo). is_choice_or_case node.kind) (slice_get nodes p) false then slice_index_or done p None else Some p

-- The indexes of a schema are correct: the children of the top and of each node, the data parent of each
-- node, and the names in their order.
pub record IsIndexed (table : SchemaTable) (first : List ℕ) (lists : List (Vec ℕ Global)) (above : List (Option ℕ))
    (of_modules of_data of_rpcs of_notifications of_identities : List Named) : Type 0 where
  pub is_table : IsTable table
  pub top : first ≡ children_in 0 table.nodes None
  pub count : length lists ≡ length table.nodes
  pub below : AreChildren table.nodes lists
  pub parents : above ≡ data_parents table
  pub modules : IsPermutation (module_names table) of_modules
  pub data_nodes : IsPermutation (data_names table) of_data
  pub rpcs : IsPermutation (kind_names Rpc table) of_rpcs
  pub notifications : IsPermutation (kind_names Notification table) of_notifications
  pub identities : IsPermutation (identity_names table) of_identities
