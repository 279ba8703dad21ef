-- The value of a node by its kind, and the ends of runs.
use Rattle.std.proofs.Common.{◌≡◌, ℕ, zero, suc, ◌-◌, ◌<◌, Bool, true, false, List, [], ◌++◌, Some, refl, ap, ◌∙◌, arith, append-nil}
use Rattle.std.specs.Prelude.{if◌then◌else◌, fold}
use Rattle.serde_json.specs.Data.{Data, null, array, Members}
use Rattle.serde_json.specs.View.{items_of}
use Rattle.sal_types.specs.declared.row.Row.{Row}
use Rattle.sal_schema.specs.declared.table.SchemaTable.{SchemaTable}
use Rattle.sal_schema.specs.Kinds.{is_leaf, is_leaf_list, is_list}
use Rattle.sal_schema.specs.Table.{is_kind}
use Rattle.sal_data.specs.Written.{Writer, node_json, leaf_json, items_json, entries_json, members_json, runs_of}

-- the value of a node by three tests of its kind
abbrev by_tests : Bool → Bool → Bool → ℕ → SchemaTable → Writer
by_tests leaf leafs list levels table n k rows =
    if leaf then leaf_json table n rows
    else if leafs then array (items_of (items_json table n k (runs_of k rows)))
    else if list then array (items_of (entries_json table n (node_json levels table) k (runs_of k rows)))
    else members_json table (Some n) (node_json levels table) k rows

node_json_is : (levels : ℕ) (table : SchemaTable) (n k : ℕ) (rows : List Row) → 0 < levels → node_json levels table n k rows ≡ by_tests (is_kind is_leaf table n) (is_kind is_leaf_list table n) (is_kind is_list table n) (levels - 1) table n k rows
unfolding node_json
node_json_is zero table n k rows l = absurd (omega arith)
node_json_is (suc levels) table n k rows l =
    let one : levels ≡ suc levels - 1 = omega arith in
    ap (λ m. by_tests (is_kind is_leaf table n) (is_kind is_leaf_list table n) (is_kind is_list table n) m table n k rows) one

pub node_json_zero : (table : SchemaTable) (n k : ℕ) (rows : List Row) → node_json 0 table n k rows ≡ null
unfolding node_json
node_json_zero table n k rows = refl

pub node_json_leaf : (levels : ℕ) (table : SchemaTable) (n k : ℕ) (rows : List Row) → 0 < levels → is_kind is_leaf table n ≡ true → node_json levels table n k rows ≡ leaf_json table n rows
node_json_leaf levels table n k rows l e = node_json_is levels table n k rows l ∙ ap (λ b. by_tests b (is_kind is_leaf_list table n) (is_kind is_list table n) (levels - 1) table n k rows) e

pub node_json_leafs : (levels : ℕ) (table : SchemaTable) (n k : ℕ) (rows : List Row) → 0 < levels → is_kind is_leaf table n ≡ false → is_kind is_leaf_list table n ≡ true → node_json levels table n k rows ≡ array (items_of (items_json table n k (runs_of k rows)))
node_json_leafs levels table n k rows l e f = node_json_is levels table n k rows l ∙ (λ i. by_tests (e i) (f i) (is_kind is_list table n) (levels - 1) table n k rows)

pub node_json_list : (levels : ℕ) (table : SchemaTable) (n k : ℕ) (rows : List Row) → 0 < levels → is_kind is_leaf table n ≡ false → is_kind is_leaf_list table n ≡ false → is_kind is_list table n ≡ true → node_json levels table n k rows ≡ array (items_of (entries_json table n (node_json (levels - 1) table) k (runs_of k rows)))
node_json_list levels table n k rows l e f g = node_json_is levels table n k rows l ∙ (λ i. by_tests (e i) (f i) (g i) (levels - 1) table n k rows)

pub node_json_other : (levels : ℕ) (table : SchemaTable) (n k : ℕ) (rows : List Row) → 0 < levels → is_kind is_leaf table n ≡ false → is_kind is_leaf_list table n ≡ false → is_kind is_list table n ≡ false → node_json levels table n k rows ≡ members_json table (Some n) (node_json (levels - 1) table) k rows
node_json_other levels table n k rows l e f g = node_json_is levels table n k rows l ∙ (λ i. by_tests (e i) (f i) (g i) (levels - 1) table n k rows)

-- ---- where no rows are left

pub items_end : (table : SchemaTable) (n k : ℕ) (rows : List Row) (done : List Data) → rows ≡ [] → done ++ items_json table n k (runs_of k rows) ≡ done
unfolding runs_of
items_end table n k rows done none = ap (λ (rs : List Row). done ++ items_json table n k (runs_of k rs)) none ∙ append-nil done

pub entries_end : (table : SchemaTable) (n : ℕ) (f : Writer) (k : ℕ) (rows : List Row) (done : List Data) → rows ≡ [] → done ++ entries_json table n f k (runs_of k rows) ≡ done
unfolding runs_of
entries_end table n f k rows done none = ap (λ (rs : List Row). done ++ entries_json table n f k (runs_of k rs)) none ∙ append-nil done

pub members_end : (with : Members → List Row → Members) (k : ℕ) (rows : List Row) (ms : Members) → rows ≡ [] → fold with ms (runs_of k rows) ≡ ms
unfolding runs_of
members_end with k rows ms none = ap (λ (rs : List Row). fold with ms (runs_of k rs)) none
