-- The part of a whole tree at a path is whole there.
use Rattle.std.proofs.Common.{◌≡◌, ℕ, ◌≤◌, Bool, true, false, cond, not, ◌&&◌, List, [], ◌∷◌, ◌++◌, length, Option, Some, None, if◌then◌else◌, refl, sym, ap, ◌∙◌}
use Rattle.std.specs.Prelude.{◌||◌, is_some}
use Rattle.std.specs.List.{filter}
use Rattle.std.specs.Option.{option_map_or}
use Rattle.std.specs.Ordering.{eq_by_cmp}
use Rattle.std.proofs.lemmas.Bool.{and_parts, and_from, or_right}
use Rattle.sal_types.specs.declared.value.Value.{Value}
use Rattle.sal_types.specs.declared.value.Cell.TheVariants.{Leaf}
use Rattle.sal_types.specs.declared.value.Step.{Step}
use Rattle.sal_types.specs.declared.value.Step.TheVariants.{Node, Key, Item}
use Rattle.sal_types.specs.declared.row.Row.{Row}
use Rattle.sal_types.specs.Order.{cell_cmp}
use Rattle.sal_types.specs.Prefix.{is_prefix}
use Rattle.sal_types.specs.Tree.{cell, under}
use Rattle.sal_rows.proofs.Cells.{cell-filter, IsAscending-filter}
use Rattle.sal_schema.specs.declared.table.SchemaTable.{SchemaTable}
use Rattle.sal_schema.specs.Fitting.{has_mark, has_own_row, cell_fits, prefixes, has_cell, has_key_leafs, has_keys, is_whole_at, is_whole_above, is_in_message, is_root, row_fits}
use Rattle.sal_schema.specs.Paths.{fits_path, last_step, node_of}
use Rattle.sal_schema.specs.Table.{keys_of}
use Rattle.sal_data.specs.Laws.{IsWhole, HasReadable, TreesReadAsWritten, ReadsAgain}
use Rattle.sal_data.specs.Read.{read_data}
use Rattle.sal_data.specs.Written.{json_at}
use Rattle.sal_data.proofs.Listed.{In, In-filter_from, list_all-In, list_all-from, All-In, All-from}
use Rattle.sal_data.proofs.Fronts.{longer_prefix}
use Rattle.sal_data.proofs.ReadsAgain.{reads_as_written, itself}
use Rattle.sal_data.proofs.ReadWhole.{reads_whole}

filter-again : {X : Type 0} (p : X → Bool) (xs : List X) → filter p (filter p xs) ≡ filter p xs
filter-again p [] = refl
filter-again p (x ∷ xs) = elim (p x) as (λ b. p x ≡ b → filter p (cond b (x ∷ filter p xs) (filter p xs)) ≡ cond b (x ∷ filter p xs) (filter p xs)) [
  | true ↦ λ e. ap (λ b. cond b (x ∷ filter p (filter p xs)) (filter p (filter p xs))) e ∙ ap (λ ys. x ∷ ys) (filter-again p xs)
  | false ↦ λ e. filter-again p xs
] refl

module _ (table : SchemaTable) (tree : List Row) (whole : IsWhole table [] tree) (path : List Step) where
  abbrev part : List Row
  part = under tree path

  -- at the path and below it the part has the cells of the tree
  same_cell : (q : List Step) → is_prefix path q ≡ true → cell (under tree path) q ≡ cell tree q
  same_cell q below = cell-filter (is_prefix path) tree q ∙ ap (λ b. if b then cell tree q else None) below

  same_leafs : (q : List Step) (leafs : List ℕ) (values : List Value) → is_prefix path q ≡ true → has_key_leafs (under tree path) q leafs values ≡ has_key_leafs tree q leafs values
  same_leafs q [] [] below = refl
  same_leafs q [] (value ∷ values) below = refl
  same_leafs q (leaf ∷ leafs) [] below = refl
  same_leafs q (leaf ∷ leafs) (value ∷ values) below =
      let here : has_cell part (q ++ Node leaf ∷ []) (Leaf value) ≡ has_cell tree (q ++ Node leaf ∷ []) (Leaf value) =
      ap (λ o. option_map_or (λ d. eq_by_cmp cell_cmp d (Leaf value)) o false) (same_cell (q ++ Node leaf ∷ []) (longer_prefix path q (Node leaf) below)) in
      λ i. here i && same_leafs q leafs values below i

  same_keys : (q : List Step) (o : Option Step) → is_prefix path q ≡ true → has_keys table (under tree path) q o ≡ has_keys table tree q o
  same_keys q None below = refl
  same_keys q (Some (Node n)) below = refl
  same_keys q (Some (Item value)) below = refl
  same_keys q (Some (Key values)) below = same_leafs q (option_map_or (keys_of table) (node_of q) []) values below

  same_whole : (q : List Step) → is_prefix path q ≡ true → is_whole_at table (under tree path) q ≡ is_whole_at table tree q
  same_whole q below = λ i. (not (has_mark table (last_step q)) || is_some (same_cell q below i)) && same_keys q (last_step q) below i

  above : (row : Row) → is_whole_above table tree [] row.path ≡ true → is_whole_above table (under tree path) path row.path ≡ true
  above row h = list_all-from (λ q. not (is_prefix path q) || is_whole_at table part q) (prefixes row.path) (λ q there. by q (list_all-In (λ q. not (is_prefix [] q) || is_whole_at table tree q) q (prefixes row.path) h there) (is_prefix path q) refl)
    where
      by : (q : List Step) → is_whole_at table tree q ≡ true → (b : Bool) → is_prefix path q ≡ b → (not b || is_whole_at table (under tree path) q) ≡ true
      by q here true below = same_whole q below ∙ here
      by q here false below = refl

  fits_part : (row : Row) → In row tree → is_prefix path row.path ≡ true → row_fits table path (under tree path) row ≡ true
  fits_part row there below =
      let all = list_all-In (row_fits table [] tree) row tree whole.fitting there in
      let (front, clear) = and_parts ((fits_path table row.path && is_prefix [] row.path) && (cell_fits table row.path row.cell && is_whole_above table tree [] row.path)) (not (is_root []) || not (is_in_message table row.path)) all in
      let (fit, right) = and_parts (fits_path table row.path && is_prefix [] row.path) (cell_fits table row.path row.cell && is_whole_above table tree [] row.path) front in
      let (of_path, root) = and_parts (fits_path table row.path) (is_prefix [] row.path) fit in
      let (of_cell, wholes) = and_parts (cell_fits table row.path row.cell) (is_whole_above table tree [] row.path) right in
      and_from ((fits_path table row.path && is_prefix path row.path) && (cell_fits table row.path row.cell && is_whole_above table part path row.path)) (not (is_root path) || not (is_in_message table row.path))
      (and_from (fits_path table row.path && is_prefix path row.path) (cell_fits table row.path row.cell && is_whole_above table part path row.path)
      (and_from (fits_path table row.path) (is_prefix path row.path) of_path below)
      (and_from (cell_fits table row.path row.cell) (is_whole_above table part path row.path) of_cell (above row wholes)))
      (or_right (not (is_root path)) (not (is_in_message table row.path)) clear)

  pub part_whole : (not (has_own_row table path) || is_some (cell tree path)) ≡ true → IsWhole table path (under tree path)
  part_whole own = record {
    ascending = IsAscending-filter (is_prefix path) tree whole.ascending;
    fitting = list_all-from (row_fits table path part) part (λ row there. let (was, below) = In-filter_from (λ (r : Row). is_prefix path r.path) row tree there in fits_part row was below);
    own = ap (λ o. not (has_own_row table path) || is_some o) (same_cell path (itself path)) ∙ own;
    short = All-from (λ (row : Row). length row.path ≤ 32) part (λ row there. All-In (λ (row : Row). length row.path ≤ 32) row tree whole.short (In-filter_from (λ (r : Row). is_prefix path r.path) row tree there).0);
    readable = All-from (HasReadable table) part (λ row there. All-In (HasReadable table) row tree whole.readable (In-filter_from (λ (r : Row). is_prefix path r.path) row tree there).0);
  }

pub trees_read_as_written : TreesReadAsWritten
trees_read_as_written table good tree whole path fits own =
    ap (λ rows. read_data table path (json_at table path (last_step path) rows)) (sym (filter-again (λ (r : Row). is_prefix path r.path) tree))
    ∙ reads_as_written table good path fits (under tree path) (part_whole table tree whole path own)

pub reads_again : ReadsAgain
reads_again table good path fits short json is rows e = reads_as_written table good path fits rows (reads_whole table good path fits short json is rows e)
