-- When rows fit, cell by cell.
use Rattle.std.proofs.Common.{◌≡◌, ℕ, Bool, true, false, ◌&&◌, not, ◌==◌, List, [], ◌∷◌, ◌++◌, get_or, Option, Some, None, inl, inr, refl, sym, ap, ◌∙◌, arith}
use Rattle.std.specs.Prelude.{◌||◌, is_some, nat_eq}
use Rattle.std.specs.List.{list_all, slice_get}
use Rattle.std.specs.Option.{option_map_or}
use Rattle.std.specs.Ordering.{eq_by_cmp}
use Rattle.std.proofs.lemmas.Bool.{and_parts, and_from, or_cases, or_right, eqb-true, eq-eqb}
use Rattle.sal_types.specs.declared.value.Value.{Value}
use Rattle.sal_types.specs.declared.value.Cell.{Cell}
use Rattle.sal_types.specs.declared.value.Cell.TheVariants.{Leaf}
use Rattle.sal_types.specs.declared.value.Step.{Step}
use Rattle.sal_types.specs.declared.value.Step.TheVariants.{Node, Key, Item}
use Rattle.sal_types.specs.declared.row.Row.{Row}
use Rattle.sal_types.specs.Order.{cell_cmp}
use Rattle.sal_types.specs.Prefix.{is_prefix}
use Rattle.sal_types.specs.Tree.{cell, IsAscending}
use Rattle.sal_schema.specs.declared.table.NodeInfo.{NodeInfo}
use Rattle.sal_schema.specs.declared.table.SchemaTable.{SchemaTable}
use Rattle.sal_schema.specs.Fitting.{has_mark, cell_fits, has_cell, has_key_leafs, has_keys, is_whole_at, is_whole_above, is_in_message, is_root, row_fits, fits, is_key}
use Rattle.sal_schema.specs.Kinds.{is_leaf, is_list}
use Rattle.sal_schema.specs.Paths.{fits_path, last_step, node_of}
use Rattle.sal_schema.specs.Table.{is_among, is_kind, is_same, keys_of, parent_of}
use Rattle.sal_schema.specs.Valid.{IsTable, has_its_keys, agree, is_empty, all_differ}
use Rattle.sal_schema.proofs.Facts.{slice_get_some}
use Rattle.sal_schema.proofs.Numbered.{all_from-at}
use Rattle.sal_history_laws.proofs.Fronts.{all_fronts, of_fronts}
use Rattle.sal_history_laws.proofs.Standing.{at_cell, at_rows}

number_itself : (n : ℕ) → (n == n) ≡ true
number_itself n = eq-eqb n n refl

parent_is : (o : Option ℕ) (n : ℕ) → is_same o (Some n) ≡ true → o ≡ Some n
parent_is None n e = cc
parent_is (Some m) n e = ap Some (eqb-true m n e)

-- ---- one cell

-- a row of this path and cell fits, from p down
pub record Fits (table : SchemaTable) (p : List Step) (rows : List Row) (r : List Step) (c : Cell) : Type 0 where
  pub path : fits_path table r ≡ true
  pub below : is_prefix p r ≡ true
  pub kind : cell_fits table r c ≡ true
  pub whole : (q : List Step) → is_prefix q r ≡ true → is_prefix p q ≡ true → is_whole_at table rows q ≡ true
  pub outside : (not (is_root p) || not (is_in_message table r)) ≡ true

abbrev pub AllFit : SchemaTable → List Step → List Row → Type 0
AllFit table p rows = (r : List Step) (c : Cell) → cell rows r ≡ Some c → Fits table p rows r c

if_below : (a b : Bool) → a ≡ true → (not a || b) ≡ true → b ≡ true
if_below true b is h = h
if_below false b is h = cc

pub row-Fits : (table : SchemaTable) (p : List Step) (rows : List Row) (r : List Step) (c : Cell) → row_fits table p rows (record { path = r; cell = c }) ≡ true → Fits table p rows r c
row-Fits table p rows r c e =
    let (front, last) = and_parts ((fits_path table r && is_prefix p r) && (cell_fits table r c && is_whole_above table rows p r)) (not (is_root p) || not (is_in_message table r)) e in
    let (place, kind) = and_parts (fits_path table r && is_prefix p r) (cell_fits table r c && is_whole_above table rows p r) front in
    let (path, below) = and_parts (fits_path table r) (is_prefix p r) place in
    let (fitting, whole) = and_parts (cell_fits table r c) (is_whole_above table rows p r) kind in
    record {
      path = path;
      below = below;
      kind = fitting;
      whole = λ q front under. if_below (is_prefix p q) (is_whole_at table rows q) under (all_fronts (λ x. not (is_prefix p x) || is_whole_at table rows x) r q whole front);
      outside = last;
    }

pub Fits-row : (table : SchemaTable) (p : List Step) (rows : List Row) (r : List Step) (c : Cell) → Fits table p rows r c → row_fits table p rows (record { path = r; cell = c }) ≡ true
Fits-row table p rows r c it =
    and_from ((fits_path table r && is_prefix p r) && (cell_fits table r c && is_whole_above table rows p r)) (not (is_root p) || not (is_in_message table r))
    (and_from (fits_path table r && is_prefix p r) (cell_fits table r c && is_whole_above table rows p r)
    (and_from (fits_path table r) (is_prefix p r) it.path it.below)
    (and_from (cell_fits table r c) (is_whole_above table rows p r) it.kind (of_fronts (λ x. not (is_prefix p x) || is_whole_at table rows x) r by)))
    it.outside
  where
    by : (q : List Step) → is_prefix q r ≡ true → (not (is_prefix p q) || is_whole_at table rows q) ≡ true
    by q front =
        elim (is_prefix p q) as (λ b. is_prefix p q ≡ b → (not b || is_whole_at table rows q) ≡ true) [
          | true ↦ λ under. it.whole q front under
          | false ↦ λ under. refl
        ] refl

-- rows that fit, and their cells
pub fits-AllFit : (table : SchemaTable) (p : List Step) (rows : List Row) → fits table p rows ≡ true → AllFit table p rows
fits-AllFit table p rows all r c e = row-Fits table p rows r c (at_cell (row_fits table p rows) rows r c all e)

pub AllFit-fits : (table : SchemaTable) (p : List Step) (rows : List Row) → IsAscending rows → AllFit table p rows → fits table p rows ≡ true
AllFit-fits table p rows rising all = at_rows (row_fits table p rows) rows rising (λ r c e. Fits-row table p rows r c (all r c e))

-- ---- entries and presence containers

-- a path that needs no row is whole
pub unmarked-whole : (table : SchemaTable) (rows : List Row) (q : List Step) → has_mark table (last_step q) ≡ false → is_whole_at table rows q ≡ true
unmarked-whole table rows q e = by (last_step q) e (is_some (cell rows q))
  where
    by : (o : Option Step) → has_mark table o ≡ false → (b : Bool) → ((not (has_mark table o) || b) && has_keys table rows q o) ≡ true
    by None e b = refl
    by (Some (Node n)) e b = and_from (not (has_mark table (Some (Node n))) || b) true (ap (λ m. not m || b) e) refl
    by (Some (Key values)) e b = cc
    by (Some (Item value)) e b = cc

-- a path with a mark has its row
pub whole-row : (table : SchemaTable) (rows : List Row) (q : List Step) → has_mark table (last_step q) ≡ true → is_whole_at table rows q ≡ true → is_some (cell rows q) ≡ true
whole-row table rows q marked whole =
    if_below (has_mark table (last_step q)) (is_some (cell rows q)) marked (and_parts (not (has_mark table (last_step q)) || is_some (cell rows q)) (has_keys table rows q (last_step q)) whole).0

-- the key leafs of the entry at a path
abbrev pub leafs_at : SchemaTable → List Step → List ℕ
leafs_at table q = option_map_or (keys_of table) (node_of q) []

module _ (rows others : List Row) (q : List Step) where
  same_key_leafs : (leafs : List ℕ) (values : List Value) → ((leaf : ℕ) → is_among leaf leafs ≡ true → cell rows (q ++ Node leaf ∷ []) ≡ cell others (q ++ Node leaf ∷ []))
      → has_key_leafs rows q leafs values ≡ has_key_leafs others q leafs values
  same_key_leafs [] [] alike = refl
  same_key_leafs [] (value ∷ values) alike = refl
  same_key_leafs (leaf ∷ leafs) [] alike = refl
  same_key_leafs (leaf ∷ leafs) (value ∷ values) alike =
      let here = alike leaf (ap (λ b. b || is_among leaf leafs) (number_itself leaf)) in
      let rest = same_key_leafs leafs values (λ other among. alike other (or_right (leaf == other) (is_among other leafs) among)) in
      λ i. option_map_or (λ d. eq_by_cmp cell_cmp d (Leaf value)) (here i) false && rest i

  -- a path that is whole in one list is whole in another list with the same cells there
  pub same_whole : (table : SchemaTable) → cell rows q ≡ cell others q → ((leaf : ℕ) → is_among leaf (leafs_at table q) ≡ true → cell rows (q ++ Node leaf ∷ []) ≡ cell others (q ++ Node leaf ∷ []))
      → is_whole_at table rows q ≡ is_whole_at table others q
  same_whole table here leafs = λ i. (not (has_mark table (last_step q)) || is_some (here i)) && keys (last_step q) i
    where
      keys : (o : Option Step) → has_keys table rows q o ≡ has_keys table others q o
      keys None = refl
      keys (Some (Node n)) = refl
      keys (Some (Key values)) = same_key_leafs (leafs_at table q) values leafs
      keys (Some (Item value)) = refl

  -- or with more cells
  more_key_leafs : (leafs : List ℕ) (values : List Value) → ((r : List Step) (c : Cell) → cell rows r ≡ Some c → cell others r ≡ Some c)
      → has_key_leafs rows q leafs values ≡ true → has_key_leafs others q leafs values ≡ true
  more_key_leafs [] [] grows e = refl
  more_key_leafs [] (value ∷ values) grows e = refl
  more_key_leafs (leaf ∷ leafs) [] grows e = refl
  more_key_leafs (leaf ∷ leafs) (value ∷ values) grows e =
      let (here, rest) = and_parts (has_cell rows (q ++ Node leaf ∷ []) (Leaf value)) (has_key_leafs rows q leafs values) e in
      and_from (has_cell others (q ++ Node leaf ∷ []) (Leaf value)) (has_key_leafs others q leafs values) (by (cell rows (q ++ Node leaf ∷ [])) refl here) (more_key_leafs leafs values grows rest)
    where
      by : (o : Option Cell) → cell rows (q ++ Node leaf ∷ []) ≡ o → option_map_or (λ d. eq_by_cmp cell_cmp d (Leaf value)) o false ≡ true → has_cell others (q ++ Node leaf ∷ []) (Leaf value) ≡ true
      by None is f = cc
      by (Some d) is f = ap (λ o. option_map_or (λ d. eq_by_cmp cell_cmp d (Leaf value)) o false) (grows (q ++ Node leaf ∷ []) d is) ∙ f

  pub more_whole : (table : SchemaTable) → ((r : List Step) (c : Cell) → cell rows r ≡ Some c → cell others r ≡ Some c) → is_whole_at table rows q ≡ true → is_whole_at table others q ≡ true
  more_whole table grows e =
      let (own, keyed) = and_parts (not (has_mark table (last_step q)) || is_some (cell rows q)) (has_keys table rows q (last_step q)) e in
      and_from (not (has_mark table (last_step q)) || is_some (cell others q)) (has_keys table others q (last_step q))
      (row (has_mark table (last_step q)) (cell rows q) refl own) (keys (last_step q) keyed)
    where
      row : (b : Bool) (o : Option Cell) → cell rows q ≡ o → (not b || is_some o) ≡ true → (not b || is_some (cell others q)) ≡ true
      row true None is f = cc
      row true (Some c) is f = ap is_some (grows q c is)
      row false o is f = refl

      keys : (o : Option Step) → has_keys table rows q o ≡ true → has_keys table others q o ≡ true
      keys None f = refl
      keys (Some (Node n)) f = refl
      keys (Some (Key values)) f = more_key_leafs (leafs_at table q) values grows f
      keys (Some (Item value)) f = refl

-- rows with the same cells fit equally
pub AllFit-same : (table : SchemaTable) (p : List Step) (rows others : List Row) → ((r : List Step) → cell others r ≡ cell rows r) → AllFit table p rows → AllFit table p others
AllFit-same table p rows others alike all r c e =
    let it = all r c (sym (alike r) ∙ e) in
    record {
      path = it.path;
      below = it.below;
      kind = it.kind;
      whole = λ q front under. same_whole others rows q table (alike q) (λ leaf among. alike (q ++ Node leaf ∷ [])) ∙ it.whole q front under;
      outside = it.outside;
    }

-- ---- keys

-- a number that is among the keys of a list is one of a key leaf
pub among-key : (table : SchemaTable) (q : List Step) (leaf : ℕ) → IsTable table → is_among leaf (leafs_at table q) ≡ true → is_key table leaf ≡ true
among-key table q leaf good = at (node_of q)
  where
    here : (n : ℕ) → is_among leaf (keys_of table n) ≡ true → (leafs : List ℕ) → is_among leaf leafs ≡ true
        → list_all (λ m. is_kind is_leaf table m && is_same (parent_of table m) (Some n)) leafs ≡ true → is_key table leaf ≡ true
    here n among [] there all = cc
    here n among (m ∷ leafs) there all =
        let (first, rest) = and_parts (is_kind is_leaf table m && is_same (parent_of table m) (Some n)) (list_all (λ m. is_kind is_leaf table m && is_same (parent_of table m) (Some n)) leafs) all in
        elim (or_cases (m == leaf) (is_among leaf leafs) there) [
          | inl is ↦
              let number : m ≡ leaf = eqb-true m leaf is in
              let parent : parent_of table m ≡ Some n = parent_is (parent_of table m) n (and_parts (is_kind is_leaf table m) (is_same (parent_of table m) (Some n)) first).1 in
              ap (λ o. option_map_or (λ list. is_among leaf (keys_of table list)) o false) (ap (parent_of table) (sym number) ∙ parent) ∙ among
          | inr later ↦ here n among leafs later rest
        ]

    of_node : (n : ℕ) (o : Option NodeInfo) → slice_get table.nodes n ≡ o → is_among leaf (option_map_or (λ (node : NodeInfo). node.keys) o []) ≡ true → is_key table leaf ≡ true
    of_node n None is among = cc
    of_node n (Some node) is among =
        let (inside, there) = slice_get_some table.nodes n node is in
        let right : has_its_keys table n (get_or table.nodes n node) ≡ true = all_from-at (has_its_keys table) 0 table.nodes n n node good.keys inside (omega arith) in
        let mine : has_its_keys table n node ≡ true = ap (has_its_keys table n) there ∙ right in
        let all = (and_parts (agree (is_list node.kind) (not (is_empty node.keys)) && all_differ nat_eq node.keys) (list_all (λ m. is_kind is_leaf table m && is_same (parent_of table m) (Some n)) node.keys) mine).1 in
        here n (ap (λ o. is_among leaf (option_map_or (λ (node : NodeInfo). node.keys) o [])) is ∙ among) node.keys among all

    at : (o : Option ℕ) → is_among leaf (option_map_or (keys_of table) o []) ≡ true → is_key table leaf ≡ true
    at None among = cc
    at (Some n) among = of_node n (slice_get table.nodes n) refl among
