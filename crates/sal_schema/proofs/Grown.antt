-- An older table, extended by the new lines of a whole table that it is part of, is the table of a schema and extends the older one.
use Rattle.std.proofs.Common.{◌≡◌, ℕ, zero, suc, ◌+◌, ◌<◌, ◌≤◌, ◌^◌, Bool as Truth, true, false, cond, not, ◌&&◌, nat_eq, nat_lt, IsTrue, List, [], ◌∷◌, ◌++◌, length, drop, map, Option, Some, None, refl, sym, ap, ◌∙◌, arith, if◌then◌else◌}
use Rattle.std.specs.Prelude.{◌||◌, option_and_then, option_map, is_none}
use Rattle.std.specs.List.{list_all, slice_get}
use Rattle.std.specs.Option.{option_map_or}
use Rattle.std.proofs.lemmas.Bool.Decides.{nat_tests}
use Rattle.std.proofs.lemmas.List.{length-map}
use Rattle.sal_restrict.specs.declared.yang_type.YangType.{YangType, out-YangType}
use Rattle.sal_restrict.specs.declared.yang_type.YangType.TheOpen.{YangType-F}
use Rattle.sal_schema.specs.declared.kind.Kind.{Kind}
use Rattle.sal_schema.specs.declared.kind.Kind.TheVariants.{Rpc, Notification}
use Rattle.sal_schema.specs.declared.names.Named.{Named}
use Rattle.sal_schema.specs.declared.table.NodeInfo.{NodeInfo}
use Rattle.sal_schema.specs.declared.table.IdentityInfo.{IdentityInfo}
use Rattle.sal_schema.specs.declared.table.SchemaTable.{SchemaTable}
use Rattle.sal_schema.specs.Kinds.{kind_eq, is_choice_or_case, is_data, is_list, is_leaf, has_type, is_choice, is_case, is_rpc, is_notification, is_parameters}
use Rattle.sal_schema.specs.Names.{named, are_distinct, module_at, module_names, identity_names, data_names, kind_names}
use Rattle.sal_schema.specs.Names as names
use Rattle.sal_schema.specs.Outlines.{Outline, outline, outlines, Label, label, labels, IsPartOf, OnIsTable}
use Rattle.sal_schema.specs.Table.{each_from, all_from, is_among, is_same, kind_of, is_kind, parent_of, closest, data_node, list_above}
use Rattle.sal_schema.specs.Valid.{IsTable, is_identifier, agree, all_differ, is_empty, has_numbers, stands_right, has_its_type, has_its_keys, has_its_uniques, is_good_identity, is_good_layer, is_good_type_layer, is_good_type}
use Rattle.sal_schema.specs.Versions.{Extends, OnExtends, on, table_on}
use Rattle.sal_schema.proofs.Conjuncts.{and_first, and_second}
use Rattle.sal_schema.proofs.Facts.{closest-None, closest-Some, is_there}
use Rattle.sal_schema.proofs.Fronts.{both, front-is, is-front, front-long, all-more, from-more, from-joined, from-rest, all-rest, all-joined, all-mapped, on-long, on-mapped}
use Rattle.sal_schema.proofs.Stays.{kind-same, parent-same, list-same}

-- ---- lists

got-mapped : {X Y : Type 0} (f : X → Y) (xs : List X) (k : ℕ) → slice_get (map f xs) k ≡ option_map f (slice_get xs k)
got-mapped f [] k = refl
got-mapped f (x ∷ xs) zero = refl
got-mapped f (x ∷ xs) (suc k) = got-mapped f xs k

each-mapped : {X Y Z : Type 0} (f : X → Y) (g : ℕ → Y → List Z) (i : ℕ) (xs : List X) → each_from (λ k x. g k (f x)) i xs ≡ each_from g i (map f xs)
each-mapped f g i [] = refl
each-mapped f g i (x ∷ xs) = ap (λ l. g i (f x) ++ l) (each-mapped f g (i + 1) xs)

each-same : {Y Z : Type 0} (g h : ℕ → Y → List Z) → ((k : ℕ) (y : Y) → g k y ≡ h k y) → (i : ℕ) (ys : List Y) → each_from g i ys ≡ each_from h i ys
each-same g h each i [] = refl
each-same g h each i (y ∷ ys) = let here = each i y in let rest = each-same g h each (i + 1) ys in λ j. here j ++ rest j

all-alike : {X : Type 0} (p q : X → Truth) → ((x : X) → p x ≡ q x) → (xs : List X) → list_all p xs ≡ list_all q xs
all-alike p q each [] = refl
all-alike p q each (x ∷ xs) = let here = each x in let rest = all-alike p q each xs in λ i. here i && rest i

less-more : (a b c : ℕ) → b ≤ c → IsTrue (nat_lt a b) → IsTrue (nat_lt a c)
less-more a b c h k = grind (arith, nat_tests)

some-more : (b c : ℕ) → b ≤ c → (o : Option ℕ) → IsTrue (option_map_or (λ t. nat_lt t b) o true) → IsTrue (option_map_or (λ t. nat_lt t c) o true)
some-more b c h None k = k
some-more b c h (Some t) k = less-more t b c h k

-- ---- tests by outlines

abbrev under : (Kind → Truth) → SchemaTable → Outline → Truth
under test table o = option_map_or test (option_and_then (kind_of table) o.parent) false

abbrev right : SchemaTable → Outline → Truth
right table o =
    ((not (under has_type table o) && agree (is_case o.kind) (under is_choice table o)) && agree (is_parameters o.kind) (under is_rpc table o))
    && (not (is_rpc o.kind || is_notification o.kind) || is_none o.parent)

abbrev name_in_kind : Kind → ℕ → Outline → List Named
name_in_kind kind n o = if kind_eq o.kind kind then named None o.module o.name n ∷ [] else []

abbrev name_in_data : SchemaTable → ℕ → Outline → List Named
name_in_data table n o = if is_data o.kind then named (data_node table o.parent) o.module o.name n ∷ [] else []

abbrev name_in_labels : ℕ → Label → List Named
name_in_labels i l = named None l.module l.name i ∷ []

-- ---- types

layer-more : (a b : SchemaTable) → length a.identities ≤ length b.identities → (layer : YangType-F YangType) → IsTrue (is_good_layer a layer) → IsTrue (is_good_layer b layer)
layer-more a b h (YangType-F.Ident bases) good = all-more (λ base. nat_lt base (length a.identities)) (λ base. nat_lt base (length b.identities)) (λ base k. less-more base (length a.identities) (length b.identities) h k) bases good
layer-more a b h layer good = good

type-layer-more : (a b : SchemaTable) → length a.identities ≤ length b.identities → (layer : YangType-F YangType) → IsTrue (is_good_type_layer a layer) → IsTrue (is_good_type_layer b layer)
type-layer-more a b h (YangType-F.Union members) good =
    both (not (is_empty members)) (list_all (λ member. is_good_layer b (out-YangType member)) members) (and_first (not (is_empty members)) (list_all (λ member. is_good_layer a (out-YangType member)) members) good)
    (all-more (λ member. is_good_layer a (out-YangType member)) (λ member. is_good_layer b (out-YangType member)) (λ member k. layer-more a b h (out-YangType member) k) members
    (and_second (not (is_empty members)) (list_all (λ member. is_good_layer a (out-YangType member)) members) good))
type-layer-more a b h layer good = layer-more a b h layer good

pub on_extends : OnExtends
on_extends older whole = record {
  nodes = is-front older.nodes (drop (length older.nodes) whole.nodes);
  types = is-front older.types (drop (length older.types) whole.types);
  modules = is-front older.modules (drop (length older.modules) whole.modules);
  identities = is-front older.identities (drop (length older.identities) whole.identities);
}

module _ (older whole : SchemaTable) (first : IsTable older) (all : IsTable whole) (part : IsPartOf older whole) where
  abbrev table : SchemaTable
  table = table_on older whole

  on-extends : Extends table older
  on-extends = on_extends older whole

  -- ---- counts

  nodes-few : length older.nodes ≤ length whole.nodes
  nodes-few = let few = front-long (outlines whole) (outlines older) part.nodes in let a = length-map older.nodes outline in let b = length-map whole.nodes outline in omega arith

  identities-few : length older.identities ≤ length whole.identities
  identities-few = let few = front-long (labels whole) (labels older) part.identities in let a = length-map older.identities label in let b = length-map whole.identities label in omega arith

  nodes-count : length table.nodes ≡ length whole.nodes
  nodes-count = on-long older.nodes whole.nodes nodes-few

  types-count : length table.types ≡ length whole.types
  types-count = on-long older.types whole.types part.types

  identities-count : length table.identities ≡ length whole.identities
  identities-count = on-long older.identities whole.identities identities-few

  modules-same : table.modules ≡ whole.modules
  modules-same = sym (front-is whole.modules older.modules part.modules)

  modules-few : length older.modules ≤ length table.modules
  modules-few = let few = front-long whole.modules older.modules part.modules in let same = ap length modules-same in omega arith

  -- ---- parts that both have

  outlines-same : outlines table ≡ outlines whole
  outlines-same = on-mapped outline older.nodes whole.nodes part.nodes

  labels-same : labels table ≡ labels whole
  labels-same = on-mapped label older.identities whole.identities part.identities

  kind-outline : (t : SchemaTable) (n : ℕ) → kind_of t n ≡ option_map (λ (o : Outline). o.kind) (slice_get (outlines t) n)
  kind-outline t n = fused (slice_get t.nodes n) ∙ sym (ap (option_map (λ (o : Outline). o.kind)) (got-mapped outline t.nodes n))
    where
      fused : (o : Option NodeInfo) → option_map (λ (node : NodeInfo). node.kind) o ≡ option_map (λ (o : Outline). o.kind) (option_map outline o)
      fused None = refl
      fused (Some node) = refl

  parent-outline : (t : SchemaTable) (n : ℕ) → parent_of t n ≡ option_and_then (λ (o : Outline). o.parent) (slice_get (outlines t) n)
  parent-outline t n = fused (slice_get t.nodes n) ∙ sym (ap (option_and_then (λ (o : Outline). o.parent)) (got-mapped outline t.nodes n))
    where
      fused : (o : Option NodeInfo) → option_and_then (λ (node : NodeInfo). node.parent) o ≡ option_and_then (λ (o : Outline). o.parent) (option_map outline o)
      fused None = refl
      fused (Some node) = refl

  kind-by : (n : ℕ) → kind_of table n ≡ kind_of whole n
  kind-by n = kind-outline table n ∙ ap (λ os. option_map (λ (o : Outline). o.kind) (slice_get os n)) outlines-same ∙ sym (kind-outline whole n)

  test-by : (test : Kind → Truth) (n : ℕ) → is_kind test table n ≡ is_kind test whole n
  test-by test n = ap (λ o. option_map_or test o false) (kind-by n)

  parent-by : (n : ℕ) → parent_of table n ≡ parent_of whole n
  parent-by n = parent-outline table n ∙ ap (λ os. option_and_then (λ (o : Outline). o.parent) (slice_get os n)) outlines-same ∙ sym (parent-outline whole n)

  closest-zero : (t : SchemaTable) (test : Kind → Truth) (here : Option ℕ) → closest test t zero here ≡ None
  unfolding closest
  closest-zero t test here = refl

  climb-by : (test : Kind → Truth) (steps : ℕ) (here : Option ℕ) → closest test table steps here ≡ closest test whole steps here
  climb-by test zero here = closest-zero table test here ∙ sym (closest-zero whole test here)
  climb-by test (suc steps) None = closest-None test table (suc steps) ∙ sym (closest-None test whole (suc steps))
  climb-by test (suc steps) (Some n) =
      closest-Some test table steps n
      ∙ ap (λ b. cond b (Some n) (closest test table steps (parent_of table n))) (test-by test n)
      ∙ ap (λ o. cond (is_kind test whole n) (Some n) (closest test table steps o)) (parent-by n)
      ∙ ap (cond (is_kind test whole n) (Some n)) (climb-by test steps (parent_of whole n))
      ∙ sym (closest-Some test whole steps n)

  closest-by : (test : Kind → Truth) (here : Option ℕ) → closest test table (length table.nodes) here ≡ closest test whole (length whole.nodes) here
  closest-by test here = ap (λ n. closest test table n here) nodes-count ∙ climb-by test (length whole.nodes) here

  list-by : (n : ℕ) → list_above table n ≡ list_above whole n
  list-by n = ap (closest is_list table (length table.nodes)) (parent-by n) ∙ closest-by is_list (parent_of whole n)

  -- ---- nodes

  right-by : (o : Outline) → right table o ≡ right whole o
  right-by o =
      ap
      (λ k. ((not (option_map_or has_type k false) && agree (is_case o.kind) (option_map_or is_choice k false)) && agree (is_parameters o.kind) (option_map_or is_rpc k false)) && (not (is_rpc o.kind || is_notification o.kind) || is_none o.parent))
      (above o.parent)
    where
      above : (p : Option ℕ) → option_and_then (kind_of table) p ≡ option_and_then (kind_of whole) p
      above None = refl
      above (Some n) = kind-by n

  places-on : IsTrue (list_all (stands_right table) table.nodes)
  places-on =
      all-mapped outline (right table) table.nodes ∙ ap (list_all (right table)) outlines-same ∙ all-alike (right table) (right whole) right-by (outlines whole) ∙ sym (all-mapped outline (right whole) whole.nodes) ∙ all.places

  names-on : IsTrue (list_all (λ (node : NodeInfo). is_identifier node.name) table.nodes)
  names-on =
      all-mapped outline (λ (o : Outline). is_identifier o.name) table.nodes ∙ ap (list_all (λ (o : Outline). is_identifier o.name)) outlines-same ∙ sym (all-mapped outline (λ (o : Outline). is_identifier o.name) whole.nodes) ∙ all.names

  -- what holds of the older nodes, and of the new ones
  nodes-on : (test old new : ℕ → NodeInfo → Truth) → ((i : ℕ) (node : NodeInfo) → IsTrue (old i node) → IsTrue (test i node)) → ((i : ℕ) (node : NodeInfo) → IsTrue (new i node) → IsTrue (test i node))
      → IsTrue (all_from old 0 older.nodes) → IsTrue (all_from new 0 whole.nodes) → IsTrue (all_from test 0 table.nodes)
  nodes-on test old new from_old from_new h k =
      let n = length older.nodes in
      let rest : IsTrue (all_from test (0 + n) (drop n whole.nodes)) = from-more new test from_new (0 + n) (drop n whole.nodes) (from-rest new 0 n whole.nodes k) in
      from-joined test 0 (0 + n) older.nodes (drop n whole.nodes) refl (from-more old test from_old 0 older.nodes h) rest

  numbers-more : (t : SchemaTable) → length t.modules ≤ length table.modules → length t.types ≤ length table.types → (i : ℕ) (node : NodeInfo) → IsTrue (has_numbers t i node) → IsTrue (has_numbers table i node)
  numbers-more t modules types i node h =
      let front = and_first (option_map_or (λ p. nat_lt p i) node.parent true && nat_lt node.module (length t.modules)) (option_map_or (λ x. nat_lt x (length t.types)) node.ty true) h in
      both (option_map_or (λ p. nat_lt p i) node.parent true && nat_lt node.module (length table.modules)) (option_map_or (λ x. nat_lt x (length table.types)) node.ty true)
      (both (option_map_or (λ p. nat_lt p i) node.parent true) (nat_lt node.module (length table.modules)) (and_first (option_map_or (λ p. nat_lt p i) node.parent true) (nat_lt node.module (length t.modules)) front)
      (less-more node.module (length t.modules) (length table.modules) modules (and_second (option_map_or (λ p. nat_lt p i) node.parent true) (nat_lt node.module (length t.modules)) front)))
      (some-more (length t.types) (length table.types) types node.ty (and_second (option_map_or (λ p. nat_lt p i) node.parent true && nat_lt node.module (length t.modules)) (option_map_or (λ x. nat_lt x (length t.types)) node.ty true) h))

  numbers-on : IsTrue (all_from (has_numbers table) 0 table.nodes)
  numbers-on =
      let modules = ap length modules-same in
      let types = part.types in
      let few = types-count in
      nodes-on (has_numbers table) (has_numbers older) (has_numbers whole) (numbers-more older modules-few (omega arith)) (numbers-more whole (omega arith) (omega arith)) first.numbers all.numbers

  typed-on : IsTrue (list_all has_its_type table.nodes)
  typed-on = all-joined has_its_type older.nodes (drop (length older.nodes) whole.nodes) first.leaf_types (all-rest has_its_type (length older.nodes) whole.nodes all.leaf_types)

  abbrev own_keys : NodeInfo → Truth
  own_keys node = agree (is_list node.kind) (not (is_empty node.keys)) && all_differ nat_eq node.keys

  abbrev is_key_in : SchemaTable → ℕ → ℕ → Truth
  is_key_in t n leaf = is_kind is_leaf t leaf && is_same (parent_of t leaf) (Some n)

  keys-more : (t : SchemaTable) → ((n leaf : ℕ) → IsTrue (is_key_in t n leaf) → IsTrue (is_key_in table n leaf)) → (n : ℕ) (node : NodeInfo) → IsTrue (has_its_keys t n node) → IsTrue (has_its_keys table n node)
  keys-more t each n node h =
      both (own_keys node) (list_all (is_key_in table n) node.keys) (and_first (own_keys node) (list_all (is_key_in t n) node.keys) h)
      (all-more (is_key_in t n) (is_key_in table n) (each n) node.keys (and_second (own_keys node) (list_all (is_key_in t n) node.keys) h))

  old-key : (n leaf : ℕ) → IsTrue (is_key_in older n leaf) → IsTrue (is_key_in table n leaf)
  old-key n leaf h =
      let kind = and_first (is_kind is_leaf older leaf) (is_same (parent_of older leaf) (Some n)) h in
      let inside = is_there is_leaf older leaf kind in
      both (is_kind is_leaf table leaf) (is_same (parent_of table leaf) (Some n)) (kind-same table older first on-extends is_leaf leaf inside ∙ kind)
      (ap (λ p. is_same p (Some n)) (parent-same table older first on-extends leaf inside) ∙ and_second (is_kind is_leaf older leaf) (is_same (parent_of older leaf) (Some n)) h)

  new-key : (n leaf : ℕ) → IsTrue (is_key_in whole n leaf) → IsTrue (is_key_in table n leaf)
  new-key n leaf h = (let kind = test-by is_leaf leaf in let parent = parent-by leaf in λ i. kind i && is_same (parent i) (Some n)) ∙ h

  keys-on : IsTrue (all_from (has_its_keys table) 0 table.nodes)
  keys-on = nodes-on (has_its_keys table) (has_its_keys older) (has_its_keys whole) (keys-more older old-key) (keys-more whole new-key) first.keys all.keys

  abbrev is_unique_in : SchemaTable → ℕ → ℕ → Truth
  is_unique_in t n leaf = is_kind is_leaf t leaf && is_same (list_above t leaf) (Some n)

  uniques-more : (t : SchemaTable) → ((n leaf : ℕ) → IsTrue (is_unique_in t n leaf) → IsTrue (is_unique_in table n leaf)) → (n : ℕ) (node : NodeInfo) → IsTrue (has_its_uniques t n node) → IsTrue (has_its_uniques table n node)
  uniques-more t each n node h = all-more (list_all (is_unique_in t n)) (list_all (is_unique_in table n)) (λ leafs k. all-more (is_unique_in t n) (is_unique_in table n) (each n) leafs k) node.unique h

  old-unique : (n leaf : ℕ) → IsTrue (is_unique_in older n leaf) → IsTrue (is_unique_in table n leaf)
  old-unique n leaf h =
      let kind = and_first (is_kind is_leaf older leaf) (is_same (list_above older leaf) (Some n)) h in
      let inside = is_there is_leaf older leaf kind in
      both (is_kind is_leaf table leaf) (is_same (list_above table leaf) (Some n)) (kind-same table older first on-extends is_leaf leaf inside ∙ kind)
      (ap (λ p. is_same p (Some n)) (list-same table older first on-extends leaf inside) ∙ and_second (is_kind is_leaf older leaf) (is_same (list_above older leaf) (Some n)) h)

  new-unique : (n leaf : ℕ) → IsTrue (is_unique_in whole n leaf) → IsTrue (is_unique_in table n leaf)
  new-unique n leaf h = (let kind = test-by is_leaf leaf in let over = list-by leaf in λ i. kind i && is_same (over i) (Some n)) ∙ h

  uniques-on : IsTrue (all_from (has_its_uniques table) 0 table.nodes)
  uniques-on = nodes-on (has_its_uniques table) (has_its_uniques older) (has_its_uniques whole) (uniques-more older old-unique) (uniques-more whole new-unique) first.uniques all.uniques

  -- ---- modules, identities and types

  modules-on : IsTrue (list_all is_identifier table.modules)
  modules-on = ap (list_all is_identifier) modules-same ∙ all.module_names

  identity-more : (t : SchemaTable) → length t.modules ≤ length table.modules → length t.identities ≤ length table.identities → (i : ℕ) (one : IdentityInfo) → IsTrue (is_good_identity t i one) → IsTrue (is_good_identity table i one)
  identity-more t modules identities i one h =
      let named = λ (t : SchemaTable). is_identifier one.name && nat_lt one.module (length t.modules) in
      let bases = λ (t : SchemaTable). list_all (λ base. nat_lt base (length t.identities)) one.derived_from in
      let front = and_first (named t && bases t) (not (is_among i one.derived_from)) h in
      let owner = and_first (named t) (bases t) front in
      both (named table && bases table) (not (is_among i one.derived_from))
      (both (named table) (bases table) (both (is_identifier one.name) (nat_lt one.module (length table.modules)) (and_first (is_identifier one.name) (nat_lt one.module (length t.modules)) owner)
      (less-more one.module (length t.modules) (length table.modules) modules (and_second (is_identifier one.name) (nat_lt one.module (length t.modules)) owner)))
      (all-more (λ base. nat_lt base (length t.identities)) (λ base. nat_lt base (length table.identities)) (λ base k. less-more base (length t.identities) (length table.identities) identities k) one.derived_from (and_second (named t) (bases t) front)))
      (and_second (named t && bases t) (not (is_among i one.derived_from)) h)

  identities-on : IsTrue (all_from (is_good_identity table) 0 table.identities)
  identities-on =
      let n = length older.identities in
      let count = identities-count in
      let few = identities-few in
      let modules = ap length modules-same in
      let old = from-more (is_good_identity older) (is_good_identity table) (identity-more older modules-few (omega arith)) 0 older.identities first.identities in
      let new = from-more (is_good_identity whole) (is_good_identity table) (identity-more whole (omega arith) (omega arith)) (0 + n) (drop n whole.identities) (from-rest (is_good_identity whole) 0 n whole.identities all.identities) in
      from-joined (is_good_identity table) 0 (0 + n) older.identities (drop n whole.identities) refl old new

  types-on : IsTrue (list_all (is_good_type table) table.types)
  types-on =
      let n = length older.types in
      let count = identities-count in
      let few = identities-few in
      let old = all-more (is_good_type older) (is_good_type table) (λ ty k. type-layer-more older table (omega arith) (out-YangType ty) k) older.types first.types in
      let new = all-more (is_good_type whole) (is_good_type table) (λ ty k. type-layer-more whole table (omega arith) (out-YangType ty) k) (drop n whole.types) (all-rest (is_good_type whole) n whole.types all.types) in
      all-joined (is_good_type table) older.types (drop n whole.types) old new

  -- ---- names

  module_names-on : module_names table ≡ module_names whole
  module_names-on = ap (each_from module_at 0) modules-same

  identity_names-on : identity_names table ≡ identity_names whole
  identity_names-on = each-mapped label name_in_labels 0 table.identities ∙ ap (each_from name_in_labels 0) labels-same ∙ sym (each-mapped label name_in_labels 0 whole.identities)

  kind_names-on : (kind : Kind) → kind_names kind table ≡ kind_names kind whole
  kind_names-on kind = each-mapped outline (name_in_kind kind) 0 table.nodes ∙ ap (each_from (name_in_kind kind) 0) outlines-same ∙ sym (each-mapped outline (name_in_kind kind) 0 whole.nodes)

  data-by : (n : ℕ) (o : Outline) → name_in_data table n o ≡ name_in_data whole n o
  data-by n o = ap (λ p. if is_data o.kind then named p o.module o.name n ∷ [] else []) (closest-by (λ kind. not (is_choice_or_case kind)) o.parent)

  data_names-on : data_names table ≡ data_names whole
  data_names-on =
      each-mapped outline (name_in_data table) 0 table.nodes ∙ ap (each_from (name_in_data table) 0) outlines-same ∙ each-same (name_in_data table) (name_in_data whole) data-by 0 (outlines whole) ∙ sym (each-mapped outline (name_in_data whole) 0 whole.nodes)

  fewer : (a b c : ℕ) → a ≡ b → b < c → a < c
  fewer a b c e h = omega arith

  pub on-table : IsTable table
  on-table = record {
    small = record {
      nodes = fewer (length table.nodes) (length whole.nodes) (2 ^ 32) nodes-count all.small.nodes;
      types = fewer (length table.types) (length whole.types) (2 ^ 32) types-count all.small.types;
      modules = fewer (length table.modules) (length whole.modules) (2 ^ 32) (ap length modules-same) all.small.modules;
      identities = fewer (length table.identities) (length whole.identities) (2 ^ 32) identities-count all.small.identities;
    };
    numbers = numbers-on;
    places = places-on;
    names = names-on;
    leaf_types = typed-on;
    keys = keys-on;
    uniques = uniques-on;
    module_names = modules-on;
    identities = identities-on;
    types = types-on;
    distinct = record {
      modules = ap are_distinct module_names-on ∙ all.distinct.modules;
      identities = ap are_distinct identity_names-on ∙ all.distinct.identities;
      rpcs = ap are_distinct (kind_names-on Rpc) ∙ all.distinct.rpcs;
      notifications = ap are_distinct (kind_names-on Notification) ∙ all.distinct.notifications;
      data_nodes = ap are_distinct data_names-on ∙ all.distinct.data_nodes;
    };
  }

pub on_is_table : OnIsTable
on_is_table older whole first all part = on-table older whole first all part
