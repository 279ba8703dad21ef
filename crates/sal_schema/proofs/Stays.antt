-- Properties of a path and of rows by a version hold by each later version too.
use Rattle.std.proofs.Common.{◌≡◌, ℕ, zero, suc, ◌-◌, ◌<◌, Bool as Truth, true, false, cond, not, ◌&&◌, ◌==◌, nat_lt, IsTrue, List, [], ◌∷◌, length, map, Option, Some, None, refl, sym, ap, ◌∙◌, subst, arith, if◌then◌else◌}
use Rattle.std.specs.Prelude.{◌||◌, IfSome, option_and_then, option_map, is_some}
use Rattle.std.specs.List.{list_all, slice_get}
use Rattle.std.specs.Option.{option_map_or}
use Rattle.std.proofs.lemmas.Bool.{true≢false}
use Rattle.std.proofs.lemmas.Bool.Decides.{nat_tests}
use Rattle.sal_types.specs.declared.value.Atom.{Atom}
use Rattle.sal_types.specs.declared.value.Atom.TheVariants as atoms
use Rattle.sal_types.specs.declared.value.Value.{Value}
use Rattle.sal_types.specs.declared.value.Cell.{Cell}
use Rattle.sal_types.specs.declared.value.Cell.TheVariants as cells
use Rattle.sal_types.specs.declared.value.Step.{Step}
use Rattle.sal_types.specs.declared.value.Step.TheVariants.{Node, Key, Item}
use Rattle.sal_types.specs.declared.row.Row.{Row}
use Rattle.sal_types.specs.Prefix.{is_prefix}
use Rattle.sal_types.specs.Tree.{cell}
use Rattle.sal_restrict.specs.declared.yang_type.YangType.{YangType, out-YangType}
use Rattle.sal_restrict.specs.declared.yang_type.YangType.TheOpen.{YangType-F}
use Rattle.sal_schema.specs.declared.fitting.Place.{Place}
use Rattle.sal_schema.specs.declared.kind.Kind.{Kind}
use Rattle.sal_schema.specs.declared.table.NodeInfo.{NodeInfo}
use Rattle.sal_schema.specs.declared.table.IdentityInfo.{IdentityInfo}
use Rattle.sal_schema.specs.declared.table.SchemaTable.{SchemaTable}
use Rattle.sal_schema.specs.Fitting.{has_mark, has_value, cell_fits, prefixes, has_keys, has_key_leafs, is_whole_at, is_whole_above, is_in_message, is_root, row_fits, fits, is_of_state, is_key, is_at_key, is_key_leaf, is_at_leaf, has_own_row}
use Rattle.sal_schema.specs.Kinds.{is_choice_or_case, is_data, is_message, has_entries, is_list, is_leaf_list, is_leaf, is_presence}
use Rattle.sal_schema.specs.Paths.{may_follow, are_of_nodes, may_pick, top, step_fits, after_step, fits_from, fits_path, last_step, node_from, node_of}
use Rattle.sal_schema.specs.Table.{closest, is_among, is_kind, is_same, parent_of, keys_of, type_of, is_derived, is_data_child, list_above, is_state}
use Rattle.sal_schema.specs.Valid.{IsTable}
use Rattle.sal_schema.specs.Values.{takes_identity, is_of_layer, is_of_plain, is_of_member, is_of_type_layer, is_of_type, is_of_node}
use Rattle.sal_schema.specs.Versions.{Extends, ExtendsItself, ExtendsOn, PathsStay, RowsStay}
use Rattle.sal_schema.proofs.Conjuncts.{and_first, and_second}
use Rattle.sal_schema.proofs.Facts.{closest-None, closest-Some, closest-enough, parent_of_before, lower, is_there, slice_get_some}
use Rattle.sal_schema.proofs.Fronts.{both, front-itself, front-on, front-long, got-stays, got-same, all-more, all-same}

pub extends-itself : ExtendsItself
extends-itself table = record { nodes = front-itself table.nodes; types = front-itself table.types; modules = front-itself table.modules; identities = front-itself table.identities }

pub extends-on : ExtendsOn
extends-on newest newer older e f = record {
  nodes = front-on newest.nodes newer.nodes older.nodes e.nodes f.nodes;
  types = front-on newest.types newer.types older.types e.types f.types;
  modules = front-on newest.modules newer.modules older.modules e.modules f.modules;
  identities = front-on newest.identities newer.identities older.identities e.identities f.identities;
}

wrong : false ≡ true → ⊥
wrong e = true≢false (sym e)

closest-zero : (test : Kind → Truth) (table : SchemaTable) (here : Option ℕ) → closest test table zero here ≡ None
unfolding closest
closest-zero test table here = refl

-- the number, if there is one, is below this
abbrev pub is_inside : ℕ → Step → Truth
is_inside count (Node n) = nat_lt n count
is_inside count (Key values) = true
is_inside count (Item value) = true

-- each node of the path has a number below this
abbrev pub IsInside : ℕ → List Step → Type 0
IsInside count path = IsTrue (list_all (is_inside count) path)

module _ (newer older : SchemaTable) (good : IsTable older) (e : Extends newer older) where
  abbrev count : ℕ
  count = length older.nodes

  -- ---- look-ups at a number of the older table

  pub node-same : (n : ℕ) → n < count → slice_get newer.nodes n ≡ slice_get older.nodes n
  node-same n inside = got-same newer.nodes older.nodes n e.nodes inside

  pub kind-same : (test : Kind → Truth) (n : ℕ) → n < count → is_kind test newer n ≡ is_kind test older n
  kind-same test n inside = ap (λ r. option_map_or test (option_map (λ (node : NodeInfo). node.kind) r) false) (node-same n inside)

  pub parent-same : (n : ℕ) → n < count → parent_of newer n ≡ parent_of older n
  parent-same n inside = ap (option_and_then (λ (node : NodeInfo). node.parent)) (node-same n inside)

  pub keys-same : (n : ℕ) → n < count → keys_of newer n ≡ keys_of older n
  keys-same n inside = ap (λ r. option_map_or (λ (node : NodeInfo). node.keys) r []) (node-same n inside)

  type-same : (n : ℕ) → n < count → type_of newer n ≡ type_of older n
  type-same n inside = ap (option_and_then (λ (node : NodeInfo). node.ty)) (node-same n inside)

  pub state-same : (n : ℕ) → n < count → is_state newer n ≡ is_state older n
  state-same n inside = ap (λ r. option_map_or (λ config. if config then false else true) (option_and_then (λ (node : NodeInfo). node.config) r) false) (node-same n inside)

  -- a climb
  climb-same : (test : Kind → Truth) (steps : ℕ) (here : Option ℕ) → IfSome here (λ n. n < count) → closest test newer steps here ≡ closest test older steps here
  climb-same test zero here h = closest-zero test newer here ∙ sym (closest-zero test older here)
  climb-same test (suc steps) None h = closest-None test newer (suc steps) ∙ sym (closest-None test older (suc steps))
  climb-same test (suc steps) (Some n) h =
      let above = lower (parent_of older n) n count (parent_of_before older n good) (omega arith) in
      closest-Some test newer steps n
      ∙ ap (λ b. cond b (Some n) (closest test newer steps (parent_of newer n))) (kind-same test n h)
      ∙ ap (λ o. cond (is_kind test older n) (Some n) (closest test newer steps o)) (parent-same n h)
      ∙ ap (cond (is_kind test older n) (Some n)) (climb-same test steps (parent_of older n) above)
      ∙ sym (closest-Some test older steps n)

  more : (here : Option ℕ) → IfSome here (λ n. n < count) → IfSome here (λ n. n < length newer.nodes)
  more here h = lower here count (length newer.nodes) h (front-long newer.nodes older.nodes e.nodes)

  pub closest-same : (test : Kind → Truth) (here : Option ℕ) → IfSome here (λ n. n < count) → closest test newer (length newer.nodes) here ≡ closest test older count here
  closest-same test here h = climb-same test (length newer.nodes) here h ∙ closest-enough test older (length newer.nodes) count here good (more here h) h

  parent-inside : (n : ℕ) → n < count → IfSome (parent_of older n) (λ p. p < count)
  parent-inside n inside = lower (parent_of older n) n count (parent_of_before older n good) (omega arith)

  above-same : (test : Kind → Truth) (n : ℕ) → n < count → closest test newer (length newer.nodes) (parent_of newer n) ≡ closest test older count (parent_of older n)
  above-same test n inside = ap (closest test newer (length newer.nodes)) (parent-same n inside) ∙ closest-same test (parent_of older n) (parent-inside n inside)

  pub list-same : (n : ℕ) → n < count → list_above newer n ≡ list_above older n
  list-same n inside = above-same is_list n inside

  child-same : (parent : Option ℕ) (n : ℕ) → n < count → is_data_child newer parent n ≡ is_data_child older parent n
  child-same parent n inside =
      let kind = kind-same is_data n inside in
      let above = above-same (λ kind. not (is_choice_or_case kind)) n inside in
      λ i. kind i && is_same (above i) parent

  follow-same : (parent : Option ℕ) (n : ℕ) → n < count → may_follow newer parent n ≡ may_follow older parent n
  follow-same None n inside = let child = child-same None n inside in let kind = kind-same is_message n inside in λ i. child i || kind i
  follow-same (Some p) n inside = child-same (Some p) n inside

  follow-inside : (parent : Option ℕ) (n : ℕ) → IsTrue (may_follow older parent n) → n < count
  follow-inside None n h = either (is_data_child older None n) (is_kind is_message older n) h (λ c. is_there is_data older n (and_first _ _ c)) (λ m. is_there is_message older n m)
    where
      either : {P : Type 0} (a b : Truth) → IsTrue (a || b) → (IsTrue a → P) → (IsTrue b → P) → P
      either true b h f g = f refl
      either false b h f g = g h
  follow-inside (Some p) n h = is_there is_data older n (and_first _ _ h)

  -- ---- values

  derived-stays : (i base : ℕ) → IsTrue (is_derived older i base) → IsTrue (is_derived newer i base)
  derived-stays i base h =
      elim (slice_get older.identities i) as (λ r. slice_get older.identities i ≡ r → IsTrue (option_map_or (λ (identity : IdentityInfo). is_among base identity.derived_from) r false) → IsTrue (is_derived newer i base)) [
        | None ↦ λ at h. absurd (wrong h)
        | Some identity ↦ λ at h.
            let there = got-stays newer.identities older.identities i identity e.identities at in
            subst (λ (r : Option IdentityInfo). IsTrue (option_map_or (λ (identity : IdentityInfo). is_among base identity.derived_from) r false)) (sym there) h
      ] refl h

  identity-stays : (bases : List ℕ) (i : ℕ) → IsTrue (takes_identity older bases i) → IsTrue (takes_identity newer bases i)
  identity-stays bases i h =
      let few = and_first (nat_lt i (length older.identities)) (list_all (is_derived older i) bases) h in
      let long = front-long newer.identities older.identities e.identities in
      let inside : IsTrue (nat_lt i (length newer.identities)) = grind (arith, nat_tests) in
      both (nat_lt i (length newer.identities)) (list_all (is_derived newer i) bases) inside
      (all-more (is_derived older i) (is_derived newer i) (λ base. derived-stays i base) bases (and_second (nat_lt i (length older.identities)) (list_all (is_derived older i) bases) h))

  layer-stays : (layer : YangType-F YangType) (atom : Atom) → IsTrue (is_of_layer older layer atom) → IsTrue (is_of_layer newer layer atom)
  layer-stays (YangType-F.Int bits signed range) (atoms.Signed n) h = h
  layer-stays (YangType-F.Int bits signed range) (atoms.Unsigned n) h = h
  layer-stays (YangType-F.Dec digits range) (atoms.Dec units n) h = h
  layer-stays (YangType-F.Text lengths patterns) (atoms.Text text) h = h
  layer-stays YangType-F.Bool (atoms.Bool b) h = h
  layer-stays (YangType-F.Enum names places) (atoms.Enum place) h = h
  layer-stays (YangType-F.Bits names positions) (atoms.Bits set) h = h
  layer-stays (YangType-F.Bin lengths) (atoms.Bin bytes) h = h
  layer-stays (YangType-F.Ident bases) (atoms.Ident i) h = identity-stays bases i h
  layer-stays YangType-F.Empty atoms.Empty h = h
  layer-stays layer atom h = absurd (wrong h)

  member-stays : (members : List YangType) (value : Value) → IsTrue (is_of_member older members value) → IsTrue (is_of_member newer members value)
  member-stays members value h =
      elim (slice_get members value.member) as (λ r. IsTrue (option_map_or (λ member. is_of_plain older member value.atom) r false) → IsTrue (option_map_or (λ member. is_of_plain newer member value.atom) r false)) [
        | None ↦ λ h. h
        | Some member ↦ λ h. layer-stays (out-YangType member) value.atom h
      ] h

  plain-stays : (layer : YangType-F YangType) (value : Value) → IsTrue (value.member == 0 && is_of_layer older layer value.atom) → IsTrue (value.member == 0 && is_of_layer newer layer value.atom)
  plain-stays layer value h =
      both (value.member == 0) (is_of_layer newer layer value.atom) (and_first (value.member == 0) (is_of_layer older layer value.atom) h)
      (layer-stays layer value.atom (and_second (value.member == 0) (is_of_layer older layer value.atom) h))

  type-layer-stays : (layer : YangType-F YangType) (value : Value) → IsTrue (is_of_type_layer older layer value) → IsTrue (is_of_type_layer newer layer value)
  type-layer-stays (YangType-F.Union members) value h = member-stays members value h
  type-layer-stays layer value h = plain-stays layer value h

  of-type-stays : (ty : YangType) (value : Value) → IsTrue (is_of_type older ty value) → IsTrue (is_of_type newer ty value)
  of-type-stays ty value h = type-layer-stays (out-YangType ty) value h

  typed-stays : (o : Option ℕ) (value : Value) → IsTrue (option_map_or (λ ty. is_of_type older ty value) (option_and_then (slice_get older.types) o) false)
      → IsTrue (option_map_or (λ ty. is_of_type newer ty value) (option_and_then (slice_get newer.types) o) false)
  typed-stays None value h = absurd (wrong h)
  typed-stays (Some t) value h =
      elim (slice_get older.types t) as (λ r. slice_get older.types t ≡ r → IsTrue (option_map_or (λ ty. is_of_type older ty value) r false) → IsTrue (option_map_or (λ ty. is_of_type newer ty value) (slice_get newer.types t) false)) [
        | None ↦ λ at h. absurd (wrong h)
        | Some ty ↦ λ at h.
            let there = got-stays newer.types older.types t ty e.types at in
            subst (λ (r : Option YangType). IsTrue (option_map_or (λ ty. is_of_type newer ty value) r false)) (sym there) (of-type-stays ty value h)
      ] refl h

  nothing-there : (n : ℕ) (value : Value) → slice_get older.nodes n ≡ None → IsTrue (is_of_node older n value) → ⊥
  nothing-there n value at h = wrong (ap (λ r. option_map_or (λ ty. is_of_type older ty value) (option_and_then (slice_get older.types) (option_and_then (λ (node : NodeInfo). node.ty) r)) false) (sym at) ∙ h)

  of-node-inside : (n : ℕ) (value : Value) → IsTrue (is_of_node older n value) → n < count
  of-node-inside n value h =
      elim (slice_get older.nodes n) as (λ r. slice_get older.nodes n ≡ r → n < count) [
        | None ↦ λ at. absurd (nothing-there n value at h)
        | Some node ↦ λ at. (slice_get_some older.nodes n node at).0
      ] refl

  of-node-stays : (n : ℕ) (value : Value) → IsTrue (is_of_node older n value) → IsTrue (is_of_node newer n value)
  of-node-stays n value h =
      let same = type-same n (of-node-inside n value h) in
      subst (λ o. IsTrue (option_map_or (λ ty. is_of_type newer ty value) (option_and_then (slice_get newer.types) o) false)) (sym same) (typed-stays (type_of older n) value h)

  keyed-stays : (leafs : List ℕ) (values : List Value) → IsTrue (are_of_nodes older leafs values) → IsTrue (are_of_nodes newer leafs values)
  keyed-stays [] [] h = refl
  keyed-stays [] (value ∷ values) h = absurd (wrong h)
  keyed-stays (leaf ∷ leafs) [] h = absurd (wrong h)
  keyed-stays (leaf ∷ leafs) (value ∷ values) h =
      both (is_of_node newer leaf value) (are_of_nodes newer leafs values) (of-node-stays leaf value (and_first (is_of_node older leaf value) (are_of_nodes older leafs values) h))
      (keyed-stays leafs values (and_second (is_of_node older leaf value) (are_of_nodes older leafs values) h))

  -- ---- paths

  pick-inside : (n : ℕ) (step : Step) → IsTrue (may_pick older n step) → n < count
  pick-inside n (Node m) h = absurd (wrong h)
  pick-inside n (Key values) h = is_there is_list older n (and_first _ _ h)
  pick-inside n (Item value) h = is_there is_leaf_list older n (and_first _ _ h)

  pick-stays : (n : ℕ) (step : Step) → IsTrue (may_pick older n step) → IsTrue (may_pick newer n step)
  pick-stays n (Node m) h = absurd (wrong h)
  pick-stays n (Key values) h =
      let inside = pick-inside n (Key values) h in
      let kind = and_first (is_kind is_list older n) (are_of_nodes older (keys_of older n) values) h in
      let keyed = keyed-stays (keys_of older n) values (and_second (is_kind is_list older n) (are_of_nodes older (keys_of older n) values) h) in
      both (is_kind is_list newer n) (are_of_nodes newer (keys_of newer n) values) (kind-same is_list n inside ∙ kind)
      (subst (λ (ks : List ℕ). IsTrue (are_of_nodes newer ks values)) (sym (keys-same n inside)) keyed)
  pick-stays n (Item value) h =
      let inside = pick-inside n (Item value) h in
      both (is_kind is_leaf_list newer n) (is_of_node newer n value) (kind-same is_leaf_list n inside ∙ and_first (is_kind is_leaf_list older n) (is_of_node older n value) h)
      (of-node-stays n value (and_second (is_kind is_leaf_list older n) (is_of_node older n value) h))

  picked-stays : (here : Option ℕ) (step : Step) → IsTrue (option_map_or (λ n. may_pick older n step) here false) → IsTrue (option_map_or (λ n. may_pick newer n step) here false)
  picked-stays None step h = h
  picked-stays (Some n) step h = pick-stays n step h

  step-stays : (place : Place) (step : Step) → IsTrue (step_fits older place step) → IsTrue (step_fits newer place step)
  step-stays place (Node n) h =
      let follows = and_second (not place.wants_entry) (may_follow older place.node n) h in
      both (not place.wants_entry) (may_follow newer place.node n) (and_first (not place.wants_entry) (may_follow older place.node n) h) (follow-same place.node n (follow-inside place.node n follows) ∙ follows)
  step-stays place (Key values) h =
      both place.wants_entry (option_map_or (λ n. may_pick newer n (Key values)) place.node false) (and_first place.wants_entry (option_map_or (λ n. may_pick older n (Key values)) place.node false) h)
      (picked-stays place.node (Key values) (and_second place.wants_entry (option_map_or (λ n. may_pick older n (Key values)) place.node false) h))
  step-stays place (Item value) h =
      both place.wants_entry (option_map_or (λ n. may_pick newer n (Item value)) place.node false) (and_first place.wants_entry (option_map_or (λ n. may_pick older n (Item value)) place.node false) h)
      (picked-stays place.node (Item value) (and_second place.wants_entry (option_map_or (λ n. may_pick older n (Item value)) place.node false) h))

  step-inside : (place : Place) (step : Step) → IsTrue (step_fits older place step) → IsTrue (is_inside count step)
  step-inside place (Node n) h = let low = follow-inside place.node n (and_second (not place.wants_entry) (may_follow older place.node n) h) in grind (arith, nat_tests)
  step-inside place (Key values) h = refl
  step-inside place (Item value) h = refl

  below : (n m : ℕ) → IsTrue (nat_lt n m) → n < m
  below n m h = grind (arith, nat_tests)

  after-same : (place : Place) (step : Step) → IsTrue (is_inside count step) → after_step newer place step ≡ after_step older place step
  after-same place (Node n) h = ap (λ b. record { node = Some n; wants_entry = b }) (kind-same has_entries n (below n count h))
  after-same place (Key values) h = refl
  after-same place (Item value) h = refl

  from-stays : (place : Place) (path : List Step) → IsTrue (fits_from older place path) → IsTrue (fits_from newer place path)
  from-stays place [] h = refl
  from-stays place (step ∷ path) h =
      let here = and_first (step_fits older place step) (fits_from older (after_step older place step) path) h in
      let rest = and_second (step_fits older place step) (fits_from older (after_step older place step) path) h in
      both (step_fits newer place step) (fits_from newer (after_step newer place step) path) (step-stays place step here)
      (subst (λ (p : Place). IsTrue (fits_from newer p path)) (sym (after-same place step (step-inside place step here))) (from-stays (after_step older place step) path rest))

  path-inside : (place : Place) (path : List Step) → IsTrue (fits_from older place path) → IsTrue (list_all (is_inside count) path)
  path-inside place [] h = refl
  path-inside place (step ∷ path) h =
      both (is_inside count step) (list_all (is_inside count) path) (step-inside place step (and_first (step_fits older place step) (fits_from older (after_step older place step) path) h))
      (path-inside (after_step older place step) path (and_second (step_fits older place step) (fits_from older (after_step older place step) path) h))

  -- ---- ends of paths

  abbrev Inside : List Step → Type 0
  Inside path = IsInside count path

  mark-here : (step : Step) → IsTrue (is_inside count step) → has_mark newer (Some step) ≡ has_mark older (Some step)
  mark-here (Node n) h = kind-same is_presence n (below n count h)
  mark-here (Key values) h = refl
  mark-here (Item value) h = refl

  leaf-here : (step : Step) → IsTrue (is_inside count step) → is_at_leaf newer (Some step) ≡ is_at_leaf older (Some step)
  leaf-here (Node n) h = kind-same is_leaf n (below n count h)
  leaf-here (Key values) h = refl
  leaf-here (Item value) h = refl

  got-all : {X : Type 0} (test : X → Truth) (xs : List X) (k : ℕ) (x : X) → IsTrue (list_all test xs) → slice_get xs k ≡ Some x → IsTrue (test x)
  got-all test [] k x h at = cc
  got-all test (y ∷ xs) zero x h at = let is : y ≡ x = cc in subst (λ z. IsTrue (test z)) is (and_first (test y) (list_all test xs) h)
  got-all test (y ∷ xs) (suc k) x h at = got-all test xs k x (and_second (test y) (list_all test xs) h) at

  at-end : {Y : Type 0} (f g : Option Step → Y) → f None ≡ g None → ((step : Step) → IsTrue (is_inside count step) → f (Some step) ≡ g (Some step)) → (path : List Step) → Inside path → f (last_step path) ≡ g (last_step path)
  at-end f g none each path h =
      elim (last_step path) as (λ o. last_step path ≡ o → f o ≡ g o) [
        | None ↦ λ at. none
        | Some step ↦ λ at. each step (got-all (is_inside count) path (length path - 1) step h at)
      ] refl

  pub mark-same : (path : List Step) → Inside path → has_mark newer (last_step path) ≡ has_mark older (last_step path)
  mark-same path h = at-end (has_mark newer) (has_mark older) refl mark-here path h

  pub own-row-same : (path : List Step) → Inside path → has_own_row newer path ≡ has_own_row older path
  own-row-same path h = at-end (λ o. has_mark newer o || is_at_leaf newer o) (λ o. has_mark older o || is_at_leaf older o) refl (λ step inside. let m = mark-here step inside in let l = leaf-here step inside in λ i. m i || l i) path h

  node-inside : (here : Option ℕ) (path : List Step) → IfSome here (λ n. n < count) → Inside path → IfSome (node_from here path) (λ n. n < count)
  node-inside here [] low h = low
  node-inside here (Node n ∷ path) low h = node-inside (Some n) path (below n count (and_first (nat_lt n count) (list_all (is_inside count) path) h)) (and_second (nat_lt n count) (list_all (is_inside count) path) h)
  node-inside here (Key values ∷ path) low h = node-inside here path low h
  node-inside here (Item value ∷ path) low h = node-inside here path low h

  of-end : {Y : Type 0} (f g : ℕ → Y) (d : Y) → ((n : ℕ) → n < count → f n ≡ g n) → (here : Option ℕ) → IfSome here (λ n. n < count) → option_map_or f here d ≡ option_map_or g here d
  of-end f g d each None low = refl
  of-end f g d each (Some n) low = each n low

  pub of-state-same : (path : List Step) → Inside path → is_of_state newer path ≡ is_of_state older path
  of-state-same path h = of-end (is_state newer) (is_state older) false state-same (node_of path) (node-inside None path tt h)

  end-keys : (path : List Step) → Inside path → option_map_or (keys_of newer) (node_of path) [] ≡ option_map_or (keys_of older) (node_of path) []
  end-keys path h = of-end (keys_of newer) (keys_of older) [] keys-same (node_of path) (node-inside None path tt h)

  key-here : (n : ℕ) → n < count → is_key newer n ≡ is_key older n
  key-here n inside =
      ap (λ o. option_map_or (λ list. is_among n (keys_of newer list)) o false) (parent-same n inside)
      ∙ of-end (λ list. is_among n (keys_of newer list)) (λ list. is_among n (keys_of older list)) false (λ list low. ap (is_among n) (keys-same list low)) (parent_of older n) (parent-inside n inside)

  at-key : (step : Step) → IsTrue (is_inside count step) → is_at_key newer (Some step) ≡ is_at_key older (Some step)
  at-key (Node n) h = key-here n (below n count h)
  at-key (Key values) h = refl
  at-key (Item value) h = refl

  pub key-leaf-same : (path : List Step) → Inside path → is_key_leaf newer path ≡ is_key_leaf older path
  key-leaf-same path h = at-end (is_at_key newer) (is_at_key older) refl at-key path h

  pub message-same : (path : List Step) → Inside path → is_in_message newer path ≡ is_in_message older path
  message-same [] h = refl
  message-same (Node n ∷ path) h = kind-same is_message n (below n count (and_first (nat_lt n count) (list_all (is_inside count) path) h))
  message-same (Key values ∷ path) h = refl
  message-same (Item value ∷ path) h = refl

  -- ---- rows

  has-keys-here : (rows : List Row) (path : List Step) → Inside path → (step : Option Step) → has_keys newer rows path step ≡ has_keys older rows path step
  has-keys-here rows path h None = refl
  has-keys-here rows path h (Some (Node n)) = refl
  has-keys-here rows path h (Some (Key values)) = ap (λ (ks : List ℕ). has_key_leafs rows path ks values) (end-keys path h)
  has-keys-here rows path h (Some (Item value)) = refl

  whole-same : (rows : List Row) (path : List Step) → Inside path → is_whole_at newer rows path ≡ is_whole_at older rows path
  whole-same rows path h =
      let mark = mark-same path h in
      let keys = has-keys-here rows path h (last_step path) in
      λ i. (not (mark i) || is_some (cell rows path)) && keys i

  all-mapped : {X Y : Type 0} (f : X → Y) (test : Y → Truth) (xs : List X) → IsTrue (list_all (λ x. test (f x)) xs) → IsTrue (list_all test (map f xs))
  all-mapped f test [] h = refl
  all-mapped f test (x ∷ xs) h = both (test (f x)) (list_all test (map f xs)) (and_first (test (f x)) (list_all (λ x. test (f x)) xs) h) (all-mapped f test xs (and_second (test (f x)) (list_all (λ x. test (f x)) xs) h))

  prefixes-inside : (path : List Step) → Inside path → IsTrue (list_all (list_all (is_inside count)) (prefixes path))
  prefixes-inside [] h = refl
  prefixes-inside (step ∷ path) h =
      let here = and_first (is_inside count step) (list_all (is_inside count) path) h in
      let rest = prefixes-inside path (and_second (is_inside count step) (list_all (is_inside count) path) h) in
      all-mapped (λ q. step ∷ q) (list_all (is_inside count)) (prefixes path) (all-more (list_all (is_inside count)) (λ q. list_all (is_inside count) (step ∷ q)) (λ q k. both (is_inside count step) (list_all (is_inside count) q) here k) (prefixes path) rest)

  above-whole : (rows : List Row) (p path : List Step) → Inside path → is_whole_above newer rows p path ≡ is_whole_above older rows p path
  above-whole rows p path h =
      all-same (list_all (is_inside count)) (λ q. not (is_prefix p q) || is_whole_at newer rows q) (λ q. not (is_prefix p q) || is_whole_at older rows q) (λ q inside. ap (λ b. not (is_prefix p q) || b) (whole-same rows q inside)) (prefixes path) (prefixes-inside path h)

  value-stays : (step : Option Step) (value : Value) → IsTrue (has_value older step value) → IsTrue (has_value newer step value)
  value-stays None value h = h
  value-stays (Some (Node n)) value h =
      let leaf = and_first (is_kind is_leaf older n) (is_of_node older n value) h in
      both (is_kind is_leaf newer n) (is_of_node newer n value) (kind-same is_leaf n (is_there is_leaf older n leaf) ∙ leaf) (of-node-stays n value (and_second (is_kind is_leaf older n) (is_of_node older n value) h))
  value-stays (Some (Key values)) value h = h
  value-stays (Some (Item one)) value h = h

  cell-stays : (path : List Step) (c : Cell) → Inside path → IsTrue (cell_fits older path c) → IsTrue (cell_fits newer path c)
  cell-stays path cells.Mark inside h = mark-same path inside ∙ h
  cell-stays path (cells.Leaf value) inside h = value-stays (last_step path) value h

  pub path-stays : (path : List Step) → IsTrue (fits_path older path) → IsTrue (fits_path newer path)
  path-stays path h = from-stays top path h

  pub fit-inside : (path : List Step) → IsTrue (fits_path older path) → Inside path
  fit-inside path h = path-inside top path h

  row-stays : (p : List Step) (rows : List Row) (row : Row) → IsTrue (row_fits older p rows row) → IsTrue (row_fits newer p rows row)
  row-stays p rows row h =
      let lies = λ (table : SchemaTable). fits_path table row.path && is_prefix p row.path in
      let holds = λ (table : SchemaTable). cell_fits table row.path row.cell && is_whole_above table rows p row.path in
      let apart = λ (table : SchemaTable). not (is_root p) || not (is_in_message table row.path) in
      let front = and_first (lies older && holds older) (apart older) h in
      let free = and_second (lies older && holds older) (apart older) h in
      let there = and_first (lies older) (holds older) front in
      let filled = and_second (lies older) (holds older) front in
      let fit = and_first (fits_path older row.path) (is_prefix p row.path) there in
      let inside = fit-inside row.path fit in
      both (lies newer && holds newer) (apart newer)
      (both (lies newer) (holds newer) (both (fits_path newer row.path) (is_prefix p row.path) (path-stays row.path fit) (and_second (fits_path older row.path) (is_prefix p row.path) there))
      (both (cell_fits newer row.path row.cell) (is_whole_above newer rows p row.path) (cell-stays row.path row.cell inside (and_first (cell_fits older row.path row.cell) (is_whole_above older rows p row.path) filled))
      (above-whole rows p row.path inside ∙ and_second (cell_fits older row.path row.cell) (is_whole_above older rows p row.path) filled)))
      (ap (λ b. not (is_root p) || not b) (message-same row.path inside) ∙ free)

  pub rows-stay : (p : List Step) (rows : List Row) → IsTrue (fits older p rows) → IsTrue (fits newer p rows)
  rows-stay p rows h = all-more (row_fits older p rows) (row_fits newer p rows) (row-stays p rows) rows h

pub paths_stay : PathsStay
paths_stay newer older path good e h = path-stays newer older good e path h

pub rows_stay : RowsStay
rows_stay newer older path rows good e h = rows-stay newer older good e path rows h
