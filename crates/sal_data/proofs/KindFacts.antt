-- What the kind of a node rules out, and what it brings with it.
use Rattle.std.proofs.Common.{◌≡◌, ℕ, Bool, true, false, Option, Some, None, refl}
use Rattle.std.specs.Option.{option_map_or}
use Rattle.sal_schema.specs.declared.kind.Kind.{Kind}
use Rattle.sal_schema.specs.declared.kind.Kind.TheVariants.{Container, List as ListKind, LeafList, Leaf as LeafKind}
use Rattle.sal_schema.specs.declared.table.SchemaTable.{SchemaTable}
use Rattle.sal_schema.specs.Kinds.{is_data, has_entries, is_list, is_leaf_list, is_leaf, has_type, is_presence, is_message}
use Rattle.sal_schema.specs.Table.{is_kind, kind_of}

-- a test of kinds that gives this answer wherever another one passes does so at any node
also : (p q : Kind → Bool) (answer : Bool) (o : Option Kind) → ((k : Kind) → p k ≡ true → q k ≡ answer) → option_map_or p o false ≡ true → option_map_or q o false ≡ answer
also p q answer None so e = cc
also p q answer (Some k) so e = so k e

module _ (table : SchemaTable) (n : ℕ) where
  pub leaf-presence : is_kind is_leaf table n ≡ true → is_kind is_presence table n ≡ false
  leaf-presence e = also is_leaf is_presence false (kind_of table n) so e
    where
      so : (k : Kind) → is_leaf k ≡ true → is_presence k ≡ false
      so LeafKind e = refl
      so k e = cc

  pub leaf-entries : is_kind is_leaf table n ≡ true → is_kind has_entries table n ≡ false
  leaf-entries e = also is_leaf has_entries false (kind_of table n) so e
    where
      so : (k : Kind) → is_leaf k ≡ true → has_entries k ≡ false
      so LeafKind e = refl
      so k e = cc

  pub leaf-type : is_kind is_leaf table n ≡ true → is_kind has_type table n ≡ true
  leaf-type e = also is_leaf has_type true (kind_of table n) so e
    where
      so : (k : Kind) → is_leaf k ≡ true → has_type k ≡ true
      so LeafKind e = refl
      so k e = cc

  pub leaf-data : is_kind is_leaf table n ≡ true → is_kind is_data table n ≡ true
  leaf-data e = also is_leaf is_data true (kind_of table n) so e
    where
      so : (k : Kind) → is_leaf k ≡ true → is_data k ≡ true
      so LeafKind e = refl
      so k e = cc

  pub leaf_list-leaf : is_kind is_leaf_list table n ≡ true → is_kind is_leaf table n ≡ false
  leaf_list-leaf e = also is_leaf_list is_leaf false (kind_of table n) so e
    where
      so : (k : Kind) → is_leaf_list k ≡ true → is_leaf k ≡ false
      so LeafList e = refl
      so k e = cc

  pub leaf_list-list : is_kind is_leaf_list table n ≡ true → is_kind is_list table n ≡ false
  leaf_list-list e = also is_leaf_list is_list false (kind_of table n) so e
    where
      so : (k : Kind) → is_leaf_list k ≡ true → is_list k ≡ false
      so LeafList e = refl
      so k e = cc

  pub leaf_list-presence : is_kind is_leaf_list table n ≡ true → is_kind is_presence table n ≡ false
  leaf_list-presence e = also is_leaf_list is_presence false (kind_of table n) so e
    where
      so : (k : Kind) → is_leaf_list k ≡ true → is_presence k ≡ false
      so LeafList e = refl
      so k e = cc

  pub leaf_list-type : is_kind is_leaf_list table n ≡ true → is_kind has_type table n ≡ true
  leaf_list-type e = also is_leaf_list has_type true (kind_of table n) so e
    where
      so : (k : Kind) → is_leaf_list k ≡ true → has_type k ≡ true
      so LeafList e = refl
      so k e = cc

  pub leaf_list-entries : is_kind is_leaf_list table n ≡ true → is_kind has_entries table n ≡ true
  leaf_list-entries e = also is_leaf_list has_entries true (kind_of table n) so e
    where
      so : (k : Kind) → is_leaf_list k ≡ true → has_entries k ≡ true
      so LeafList e = refl
      so k e = cc

  pub list-leaf : is_kind is_list table n ≡ true → is_kind is_leaf table n ≡ false
  list-leaf e = also is_list is_leaf false (kind_of table n) so e
    where
      so : (k : Kind) → is_list k ≡ true → is_leaf k ≡ false
      so ListKind e = refl
      so k e = cc

  pub list-leaf_list : is_kind is_list table n ≡ true → is_kind is_leaf_list table n ≡ false
  list-leaf_list e = also is_list is_leaf_list false (kind_of table n) so e
    where
      so : (k : Kind) → is_list k ≡ true → is_leaf_list k ≡ false
      so ListKind e = refl
      so k e = cc

  pub list-presence : is_kind is_list table n ≡ true → is_kind is_presence table n ≡ false
  list-presence e = also is_list is_presence false (kind_of table n) so e
    where
      so : (k : Kind) → is_list k ≡ true → is_presence k ≡ false
      so ListKind e = refl
      so k e = cc

  pub list-entries : is_kind is_list table n ≡ true → is_kind has_entries table n ≡ true
  list-entries e = also is_list has_entries true (kind_of table n) so e
    where
      so : (k : Kind) → is_list k ≡ true → has_entries k ≡ true
      so ListKind e = refl
      so k e = cc

  pub entries-leaf : is_kind has_entries table n ≡ true → is_kind is_leaf table n ≡ false
  entries-leaf e = also has_entries is_leaf false (kind_of table n) so e
    where
      so : (k : Kind) → has_entries k ≡ true → is_leaf k ≡ false
      so ListKind e = refl
      so LeafList e = refl
      so k e = cc

  pub entries-presence : is_kind has_entries table n ≡ true → is_kind is_presence table n ≡ false
  entries-presence e = also has_entries is_presence false (kind_of table n) so e
    where
      so : (k : Kind) → has_entries k ≡ true → is_presence k ≡ false
      so ListKind e = refl
      so LeafList e = refl
      so k e = cc

  pub data-message : is_kind is_data table n ≡ true → is_kind is_message table n ≡ false
  data-message e = also is_data is_message false (kind_of table n) so e
    where
      so : (k : Kind) → is_data k ≡ true → is_message k ≡ false
      so (Container presence) e = refl
      so ListKind e = refl
      so LeafList e = refl
      so LeafKind e = refl
      so k e = cc

  pub no_entries : is_kind is_leaf_list table n ≡ false → is_kind is_list table n ≡ false → is_kind has_entries table n ≡ false
  no_entries e f = by (kind_of table n) e f
    where
      by : (o : Option Kind) → option_map_or is_leaf_list o false ≡ false → option_map_or is_list o false ≡ false → option_map_or has_entries o false ≡ false
      by None e f = refl
      by (Some ListKind) e f = cc
      by (Some LeafList) e f = cc
      by (Some k) e f = refl
