-- All parts together: the table of readable statements is one of a schema.
use Rattle.std.proofs.Common.{ℕ, ◌+◌, ◌<◌, ◌≤◌, ◌^◌, Bool, not, ◌&&◌, nat_eq, nat_lt, IsTrue, List, [], ◌∷◌, length, Some, refl, arith}
use Rattle.std.specs.List.{list_all}
use Rattle.std.proofs.lemmas.Bool.Decides.{nat_tests}
use Rattle.sal_restrict.specs.declared.yang_type.YangType.{YangType, out-YangType}
use Rattle.sal_restrict.specs.declared.yang_type.YangType.TheOpen.{YangType-F}
use Rattle.sal_schema.specs.declared.table.NodeInfo.{NodeInfo}
use Rattle.sal_schema.specs.declared.table.SchemaTable.{SchemaTable}
use Rattle.sal_schema.specs.Kinds.{is_leaf, is_list}
use Rattle.sal_schema.specs.Table.{all_from, is_kind, is_same, parent_of}
use Rattle.sal_schema.specs.Valid.{IsTable, is_identifier, are_named, agree, all_differ, is_empty, is_good_layer, is_good_type_layer, is_good_type}
use Rattle.sal_schema.proofs.Conjuncts.{and_first, and_second}
use Rattle.sal_typedefs.specs.Names.{steps_of}
use Rattle.sal_build.specs.Laws.{TablesAreTables, of_each, is_bounded, is_placed, is_spelled, has_members}
use Rattle.sal_stmt.specs.declared.stmt.Stmt.{Stmt}
use Rattle.sal_grouping.proofs.Parts.{TreeNode}
use Rattle.sal_build.specs.Readable.{is_readable, are_readable}
use Rattle.sal_build.proofs.Built.{IsBuiltOn, built_on, nodes_of}
use Rattle.sal_build.proofs.HeldRows.{rows-held}
use Rattle.sal_build.proofs.Staged.{IsGrown, first-grown}
use Rattle.sal_build.proofs.BoundedTypes.{types-are-bounded-on}
use Rattle.sal_build.proofs.CountedIdentities.{identities-are-statements-on}
use Rattle.sal_build.proofs.DistinctCalls.{call-names-differ-on}
use Rattle.sal_build.proofs.DistinctIdentities.{identity-names-differ-on}
use Rattle.sal_build.proofs.DistinctModules.{module-names-differ-on}
use Rattle.sal_build.proofs.DistinctNodes.{data-names-differ-on}
use Rattle.sal_build.proofs.GoodIdentities.{identities-are-good-on}
use Rattle.sal_build.proofs.KeyedLists.{keys-are-there-on}
use Rattle.sal_build.proofs.NamedModules.{modules-are-named-on}
use Rattle.sal_build.proofs.NamedNodes.{nodes-are-named-on}
use Rattle.sal_build.proofs.Numbers.{numbers-are-there-on, tables-are-small-on}
use Rattle.sal_build.proofs.PlacedNames.{names-are-placed-on}
use Rattle.sal_build.proofs.Quiet.{both}
use Rattle.sal_build.proofs.RightPlaces.{nodes-stand-right-on}
use Rattle.sal_build.proofs.SpelledBits.{own-places, bits-are-spelled-on}
use Rattle.sal_build.proofs.TypedLeafs.{leafs-are-typed-on}
use Rattle.sal_build.proofs.UnionMembers.{unions-have-members-on}
use Rattle.sal_build.proofs.Uniques.{keys-are-inside-on, uniques-are-below-on}
use Rattle.sal_build.proofs.Entries.{wrong}

-- ---- types

module _ (table : SchemaTable) where
  abbrev count : ℕ
  count = length table.identities

  good-layer : (layer : YangType-F YangType) → IsTrue (is_bounded count layer) → IsTrue (is_placed layer) → IsTrue (is_spelled layer) → IsTrue (is_good_layer table layer)
  good-layer (YangType-F.Int bits signed range) b p s = b
  good-layer (YangType-F.Dec digits range) b p s = b
  good-layer (YangType-F.Text length patterns) b p s = refl
  good-layer YangType-F.Bool b p s = refl
  good-layer (YangType-F.Enum names places) b p s = p
  good-layer (YangType-F.Bits names positions) b p s =
      let low = list_all (λ p. nat_lt p 64) positions in
      both (are_named names positions && list_all is_identifier names) low (both (are_named names positions) (list_all is_identifier names) (and_first (are_named names positions) low p) s) (and_second (are_named names positions) low p)
  good-layer (YangType-F.Bin length) b p s = refl
  good-layer (YangType-F.Ident bases) b p s = b
  good-layer YangType-F.Empty b p s = refl
  good-layer (YangType-F.Union members) b p s = absurd (wrong b)
  good-layer (YangType-F.Leafref path) b p s = absurd (wrong b)

  good-members : (members : List YangType) → IsTrue (list_all (λ m. is_bounded count (out-YangType m)) members) → IsTrue (list_all (λ m. is_placed (out-YangType m)) members) → IsTrue (list_all (λ m. is_spelled (out-YangType m)) members)
      → IsTrue (list_all (λ m. is_good_layer table (out-YangType m)) members)
  good-members [] b p s = refl
  good-members (m ∷ members) b p s =
      let layer = out-YangType m in
      let bs = list_all (λ m. is_bounded count (out-YangType m)) members in
      let ps = list_all (λ m. is_placed (out-YangType m)) members in
      let ss = list_all (λ m. is_spelled (out-YangType m)) members in
      both (is_good_layer table layer) (list_all (λ m. is_good_layer table (out-YangType m)) members)
      (good-layer layer (and_first (is_bounded count layer) bs b) (and_first (is_placed layer) ps p) (and_first (is_spelled layer) ss s))
      (good-members members (and_second (is_bounded count layer) bs b) (and_second (is_placed layer) ps p) (and_second (is_spelled layer) ss s))

  good-type-layer : (layer : YangType-F YangType) → IsTrue (of_each (is_bounded count) layer) → IsTrue (of_each is_placed layer) → IsTrue (of_each is_spelled layer) → IsTrue (has_members layer)
      → IsTrue (is_good_type_layer table layer)
  good-type-layer (YangType-F.Union members) b p s f = both (not (is_empty members)) (list_all (λ m. is_good_layer table (out-YangType m)) members) f (good-members members b p s)
  good-type-layer layer b p s f = good-layer layer b p s

  good-types : (types : List YangType) → IsTrue (list_all (λ ty. of_each (is_bounded count) (out-YangType ty)) types) → IsTrue (list_all (λ ty. of_each is_placed (out-YangType ty)) types)
      → IsTrue (list_all (λ ty. of_each is_spelled (out-YangType ty)) types) → IsTrue (list_all (λ ty. has_members (out-YangType ty)) types) → IsTrue (list_all (is_good_type table) types)
  good-types [] b p s f = refl
  good-types (ty ∷ types) b p s f =
      let layer = out-YangType ty in
      let bs = list_all (λ ty. of_each (is_bounded count) (out-YangType ty)) types in
      let ps = list_all (λ ty. of_each is_placed (out-YangType ty)) types in
      let ss = list_all (λ ty. of_each is_spelled (out-YangType ty)) types in
      let fs = list_all (λ ty. has_members (out-YangType ty)) types in
      both (is_good_type table ty) (list_all (is_good_type table) types)
      (good-type-layer layer (and_first (of_each (is_bounded count) layer) bs b) (and_first (of_each is_placed layer) ps p) (and_first (of_each is_spelled layer) ss s) (and_first (has_members layer) fs f))
      (good-types types (and_second (of_each (is_bounded count) layer) bs b) (and_second (of_each is_placed layer) ps p) (and_second (of_each is_spelled layer) ss s) (and_second (has_members layer) fs f))

-- ---- keys

joined : {X : Type 0} (a : X → Bool) (b : ℕ → X → Bool) (i : ℕ) (xs : List X) → IsTrue (list_all a xs) → IsTrue (all_from b i xs) → IsTrue (all_from (λ n x. a x && b n x) i xs)
joined a b i [] h k = refl
joined a b i (x ∷ xs) h k =
    both (a x && b i x) (all_from (λ n x. a x && b n x) (i + 1) xs) (both (a x) (b i x) (and_first (a x) (list_all a xs) h) (and_first (b i x) (all_from b (i + 1) xs) k))
    (joined a b (i + 1) xs (and_second (a x) (list_all a xs) h) (and_second (b i x) (all_from b (i + 1) xs) k))

-- ---- identities

fewer : (few count high : ℕ) → few ≤ count → IsTrue (nat_lt count high) → few < high
fewer few count high h k = grind (arith, nat_tests)

pub tables-good : (stmts : List Stmt) (nodes : List TreeNode) (table : SchemaTable) → IsTrue (are_readable stmts) → IsBuiltOn stmts nodes table → IsGrown stmts nodes → IsTable table
tables-good stmts all table readable built grown =
    let each = and_first (list_all is_readable stmts) (nat_lt (steps_of stmts) (2 ^ 32)) readable in
    let count = and_second (list_all is_readable stmts) (nat_lt (steps_of stmts) (2 ^ 32)) readable in
    let differ = own-places stmts each in
    let (nodes, types, modules) = tables-are-small-on stmts all table built grown.each in
    let (rpcs, notifications) = call-names-differ-on stmts all table differ built grown.each grown.alone in
    record {
      small = record { nodes = nodes; types = types; modules = modules; identities = fewer (length table.identities) (steps_of stmts) (2 ^ 32) (identities-are-statements-on stmts all table built grown.each) count };
      numbers = numbers-are-there-on stmts all table built grown.each;
      places = nodes-stand-right-on stmts all table differ built grown.each grown.alone grown.linked;
      names = nodes-are-named-on stmts all table differ built grown.each;
      leaf_types = leafs-are-typed-on stmts all table built grown.each;
      keys = joined (λ (node : NodeInfo). agree (is_list node.kind) (not (is_empty node.keys)) && all_differ nat_eq node.keys)
          (λ n (node : NodeInfo). list_all (λ leaf. is_kind is_leaf table leaf && is_same (parent_of table leaf) (Some n)) node.keys) 0 table.nodes (keys-are-there-on stmts all table differ built grown.each)
          (keys-are-inside-on stmts all table built grown.each);
      uniques = uniques-are-below-on stmts all table built grown.each;
      module_names = modules-are-named-on stmts all table built grown.each;
      identities = identities-are-good-on stmts all table built grown.each;
      types = good-types table table.types (types-are-bounded-on stmts all table built grown.each) (names-are-placed-on stmts all table built grown.each) (bits-are-spelled-on stmts all table each built grown.each)
          (unions-have-members-on stmts all table each built grown.each);
      distinct = record {
        modules = module-names-differ-on stmts all table built grown.each;
        identities = identity-names-differ-on stmts all table built grown.each;
        rpcs = rpcs;
        notifications = notifications;
        data_nodes = data-names-differ-on stmts all table differ built grown.each;
      };
    }

pub tables_are_tables : TablesAreTables
tables_are_tables stmts table readable e =
    let built = built_on stmts table e in
    tables-good stmts (nodes_of stmts) table readable built (first-grown stmts (rows-held stmts built.checked.profile) built.checked.profile)
