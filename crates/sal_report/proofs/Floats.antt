-- No floating-point number is in what is written for rows.
use Rattle.std.proofs.Common.{◌≡◌, ℕ, zero, suc, ◌+◌, false, List, [], ◌∷◌, ◌++◌, Option, Some, None, Ordering, Less, Equal, Greater, refl}
use Rattle.std.proofs.lemmas.Bool.{or_from}
use Rattle.std.specs.Prelude.{fold}
use Rattle.std.specs.Cmp.Lexicographic.{slice_cmp}
use Rattle.std.specs.Ordering.{nat_cmp, match_ordering}
use Rattle.serde_json.specs.Data.{Data, Members, no_members, member, put}
use Rattle.serde_json.specs.View.{items_of}
use Rattle.serde_json.specs.Written.{has_float, items_have_float, members_have_float}
use Rattle.sal_types.specs.declared.value.Value.{Value}
use Rattle.sal_types.specs.declared.value.Cell.{Cell}
use Rattle.sal_types.specs.declared.value.Cell.TheVariants.{Mark, Leaf}
use Rattle.sal_types.specs.declared.value.Step.{Step}
use Rattle.sal_types.specs.declared.value.Step.TheVariants.{Node, Key, Item}
use Rattle.sal_types.specs.declared.row.Row.{Row}
use Rattle.sal_types.specs.Tree.{under}
use Rattle.sal_schema.specs.declared.table.SchemaTable.{SchemaTable}
use Rattle.sal_schema.specs.Kinds.{is_leaf, is_leaf_list, is_list}
use Rattle.sal_schema.specs.Table.{is_kind}
use Rattle.sal_schema.specs.Paths.{last_step, node_of}
use Rattle.sal_schema.proofs.Conjuncts.{or_first, or_second}
use Rattle.sal_data.specs.Members.{member_name}
use Rattle.sal_data.specs.Written.{runs_of, step_of, scalar_json, leaf_json, Writer, with_member, with_run, members_json, item_json, items_json, entry_json, entries_json, node_json, any_json, json_at, write_data}
use Rattle.sal_script.specs.BatchData.{leaf_data}
use Rattle.sal_tree_text.proofs.Floats.{has_float-scalar, if_some, one_of}

-- ---- a choice among values without a float

chosen : (o : Ordering) (a b c : Members) → members_have_float a ≡ false → members_have_float b ≡ false → members_have_float c ≡ false → members_have_float (match_ordering o a b c) ≡ false
chosen Less a b c p q r = p
chosen Equal a b c p q r = q
chosen Greater a b c p q r = r

whole_put : (k : List ℕ) (d : Data) (ms : Members) → has_float d ≡ false → members_have_float ms ≡ false → members_have_float (put k d ms) ≡ false
whole_put k d no_members one all = rw one refl
whole_put k d (member l e ms) one all =
    let here = or_first (has_float e) (members_have_float ms) all in
    let rest = or_second (has_float e) (members_have_float ms) all in
    chosen (slice_cmp nat_cmp k l) _ _ _ (or_from (has_float d) _ one all) (or_from (has_float d) _ one rest) (or_from (has_float e) _ here (whole_put k d ms one rest))

whole_append : (xs ys : List Data) → items_have_float (items_of xs) ≡ false → items_have_float (items_of ys) ≡ false → items_have_float (items_of (xs ++ ys)) ≡ false
whole_append [] ys p q = q
whole_append (x ∷ xs) ys p q =
    let here = or_first (has_float x) (items_have_float (items_of xs)) p in
    let rest = or_second (has_float x) (items_have_float (items_of xs)) p in
    or_from (has_float x) _ here (whole_append xs ys rest q)

-- ---- values

whole_leaf : (table : SchemaTable) (n : ℕ) (rows : List Row) → has_float (leaf_json table n rows) ≡ false
whole_leaf table n [] = refl
whole_leaf table n (row ∷ rows) = at row.cell
  where
    at : (cell : Cell) → has_float (leaf_json table n (record row { cell = cell } ∷ rows)) ≡ false
    at Mark = refl
    at (Leaf value) = has_float-scalar table n value

-- ---- trees

-- no value that is given has a float
abbrev IsWhole : Writer → Type 0
IsWhole f = (n k : ℕ) (rows : List Row) → has_float (f n k rows) ≡ false

whole_member : (table : SchemaTable) (parent : Option ℕ) (f : Writer) (k : ℕ) (ms : Members) (step : Option Step) (run : List Row) → IsWhole f → members_have_float ms ≡ false → members_have_float (with_member table parent f k ms step run) ≡ false
whole_member table parent f k ms None run given all = all
whole_member table parent f k ms (Some (Node n)) run given all = whole_put (member_name table parent n) (f n (k + 1) run) ms (given n (k + 1) run) all
whole_member table parent f k ms (Some (Key values)) run given all = all
whole_member table parent f k ms (Some (Item value)) run given all = all

whole_fold : (table : SchemaTable) (parent : Option ℕ) (f : Writer) (k : ℕ) (ms : Members) (runs : List (List Row)) → IsWhole f → members_have_float ms ≡ false → members_have_float (fold (with_run table parent f k) ms runs) ≡ false
whole_fold table parent f k ms [] given all = all
whole_fold table parent f k ms (run ∷ runs) given all = whole_fold table parent f k (with_run table parent f k ms run) runs given (whole_member table parent f k ms (step_of k run) run given all)

whole_members : (table : SchemaTable) (parent : Option ℕ) (f : Writer) (k : ℕ) (rows : List Row) → IsWhole f → has_float (members_json table parent f k rows) ≡ false
whole_members table parent f k rows given = whole_fold table parent f k no_members (runs_of k rows) given refl

whole_item : (table : SchemaTable) (n : ℕ) (step : Option Step) → items_have_float (items_of (item_json table n step)) ≡ false
whole_item table n None = refl
whole_item table n (Some (Node m)) = refl
whole_item table n (Some (Key values)) = refl
whole_item table n (Some (Item value)) = or_from (has_float (scalar_json table n value)) false (has_float-scalar table n value) refl

whole_items : (table : SchemaTable) (n k : ℕ) (runs : List (List Row)) → items_have_float (items_of (items_json table n k runs)) ≡ false
whole_items table n k [] = refl
whole_items table n k (run ∷ runs) = whole_append (item_json table n (step_of k run)) (items_json table n k runs) (whole_item table n (step_of k run)) (whole_items table n k runs)

whole_entry : (table : SchemaTable) (n : ℕ) (f : Writer) (k : ℕ) (step : Option Step) (run : List Row) → IsWhole f → items_have_float (items_of (entry_json table n f k step run)) ≡ false
whole_entry table n f k None run given = refl
whole_entry table n f k (Some (Node m)) run given = refl
whole_entry table n f k (Some (Key values)) run given = or_from (has_float (members_json table (Some n) f (k + 1) run)) false (whole_members table (Some n) f (k + 1) run given) refl
whole_entry table n f k (Some (Item value)) run given = refl

whole_entries : (table : SchemaTable) (n : ℕ) (f : Writer) (k : ℕ) (runs : List (List Row)) → IsWhole f → items_have_float (items_of (entries_json table n f k runs)) ≡ false
whole_entries table n f k [] given = refl
whole_entries table n f k (run ∷ runs) given = whole_append (entry_json table n f k (step_of k run) run) (entries_json table n f k runs) (whole_entry table n f k (step_of k run) run given) (whole_entries table n f k runs given)

whole_node : (levels : ℕ) (table : SchemaTable) → IsWhole (node_json levels table)
unfolding node_json
whole_node zero table = λ n k rows. refl
whole_node (suc levels) table = λ n k rows.
    let given = whole_node levels table in
    one_of (is_kind is_leaf table n) _ _ (whole_leaf table n rows)
    (one_of (is_kind is_leaf_list table n) _ _ (whole_items table n k (runs_of k rows))
    (one_of (is_kind is_list table n) _ _ (whole_entries table n (node_json levels table) k (runs_of k rows) given)
    (whole_members table (Some n) (node_json levels table) k rows given)))

whole_at : (table : SchemaTable) (path : List Step) (step : Option Step) (rows : List Row) → has_float (json_at table path step rows) ≡ false
whole_at table path None rows = whole_members table None (any_json table) 0 rows (whole_node 32 table)
whole_at table path (Some (Node n)) rows = whole_node 32 table n _ rows
whole_at table path (Some (Key values)) rows = whole_members table (node_of path) (any_json table) _ rows (whole_node 32 table)
whole_at table path (Some (Item value)) rows = if_some (λ n. scalar_json table n value) (node_of path) (λ n. has_float-scalar table n value)

pub has_float-write_data : (table : SchemaTable) (path : List Step) (rows : List Row) → has_float (write_data table path rows) ≡ false
has_float-write_data table path rows = whole_at table path (last_step path) (under rows path)

-- and there is none for a leaf
pub has_float-leaf_data : (table : SchemaTable) (step : Option Step) (value : Value) → has_float (leaf_data table step value) ≡ false
has_float-leaf_data table None value = refl
has_float-leaf_data table (Some (Node n)) value = has_float-scalar table n value
has_float-leaf_data table (Some (Key values)) value = refl
has_float-leaf_data table (Some (Item item)) value = refl
