-- Indexes of a table, and when they are right for it.
use Rattle.std.specs.Prelude.{◌≡◌, length, None}
use Rattle.std.specs.List.Sorted.{IsPermutation}
use Rattle.sal_schema.specs.declared.indexes.Messages.{Messages}
use Rattle.sal_schema.specs.declared.indexes.Placed.{Placed}
use Rattle.sal_schema.specs.declared.indexes.Places.{Places}
use Rattle.sal_schema.specs.declared.indexes.Statics.{Statics}
use Rattle.sal_schema.specs.declared.indexes.Tops.{Tops}
use Rattle.sal_schema.specs.declared.kind.Kind.TheVariants.{Rpc, Notification}
use Rattle.sal_schema.specs.declared.table.SchemaTable.{SchemaTable}
use Rattle.sal_schema.specs.Indexed.{AreChildren, data_parents}
use Rattle.sal_schema.specs.Names.{module_names, identity_names, data_names, kind_names}
use Rattle.sal_schema.specs.Table.{children_in}

-- the children of the top and of each node, and the data parent of each node
pub record ArePlaces (table : SchemaTable) (it : Places) : Type 0 where
  pub top : it.children.top.items ≡ children_in 0 table.nodes None
  pub count : length it.children.below.items ≡ length table.nodes
  pub below : AreChildren table.nodes it.children.below.items
  pub parents : it.data_parents.items ≡ data_parents table

-- and the names of the nodes for data
pub record IsPlaced (table : SchemaTable) (it : Placed) : Type 0 where
  pub places : ArePlaces table it.places
  pub data_nodes : IsPermutation (data_names table) it.data_nodes

-- the names of the modules and identities
pub record AreStatics (table : SchemaTable) (it : Statics) : Type 0 where
  pub modules : IsPermutation (module_names table) it.modules
  pub identities : IsPermutation (identity_names table) it.identities

-- the names of the RPCs and notifications
pub record AreMessages (table : SchemaTable) (it : Messages) : Type 0 where
  pub rpcs : IsPermutation (kind_names Rpc table) it.rpcs
  pub notifications : IsPermutation (kind_names Notification table) it.notifications

-- and all of them
pub record AreTops (table : SchemaTable) (it : Tops) : Type 0 where
  pub statics : AreStatics table it.statics
  pub messages : AreMessages table it.messages
