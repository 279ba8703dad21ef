-- The changes from one readable tree to the next read as they are written.
use Rattle.std.proofs.Common.{◌≡◌, ℕ, ◌≤◌, ◌&&◌, ◌||◌, Bool, true, false, not, List, [], ◌∷◌, map, length, Option, Some, None, All, filter, fold, cond, true≢false, refl, ap, sym, subst, ◌∙◌, if◌then◌else◌}
use Rattle.std.specs.Prelude.{⊤, T, option_map, option_and_then}
use Rattle.std.specs.List.{list_all}
use Rattle.std.specs.FinMap.{is_sorted}
use Rattle.std.specs.FinMap.Entries.{below_all}
use Rattle.std.specs.Ordering.{is_lt, match_ordering}
use Rattle.std.specs.declared.cmp.Ordering.TheVariants.{Less, Equal, Greater}
use Rattle.std.proofs.lemmas.Bool.{and_parts, and_from, or_right}
use Rattle.std.proofs.lemmas.List.Elements.{All-head, All-tail}
use Rattle.std.proofs.lemmas.List.Folds.{fold-map}
use Rattle.serde_json.specs.View.{items_of}
use Rattle.sal_types.specs.declared.value.Value.{Value}
use Rattle.sal_types.specs.declared.value.Cell.{Cell}
use Rattle.sal_types.specs.declared.value.Cell.TheVariants.{Mark, Leaf}
use Rattle.sal_types.specs.declared.value.Step.{Step}
use Rattle.sal_types.specs.declared.value.Step.TheVariants.{Node, Key, Item}
use Rattle.sal_types.specs.declared.row.Row.{Row}
use Rattle.sal_types.specs.Order.{path_cmp, path_eq}
use Rattle.sal_types.specs.Prefix.{is_prefix}
use Rattle.sal_types.specs.Tree.{cell}
use Rattle.sal_types.proofs.Trees.{IsTrue-from_T}
use Rattle.sal_types.proofs.TrueParts.{first, second}
use Rattle.sal_rows.specs.declared.change.Change.{Change}
use Rattle.sal_rows.specs.declared.rows.patch.Patch.{Patch}
use Rattle.sal_rows.specs.Changes.{same_cell, compared, changes}
use Rattle.sal_rows.specs.Edits.{set_row}
use Rattle.sal_rows.specs.Patch.{with_cell, patched}
use Rattle.sal_rows.proofs.Cells.{same_path}
use Rattle.sal_rows.proofs.Differing.{marks, Rises, rises-changes}
use Rattle.sal_rows.proofs.Patched.{with-changes}
use Rattle.sal_schema.specs.declared.table.SchemaTable.{SchemaTable}
use Rattle.sal_schema.specs.Fitting.{has_mark, has_value, is_at_leaf, has_own_row, cell_fits, is_whole_above, is_in_message, is_root, row_fits}
use Rattle.sal_schema.specs.Kinds.{is_leaf}
use Rattle.sal_schema.specs.Paths.{fits_path, last_step, node_of}
use Rattle.sal_schema.specs.Table.{is_kind}
use Rattle.sal_schema.specs.Values.{is_of_node}
use Rattle.sal_follow.specs.Framed.{patch_by, patches}
use Rattle.sal_follow.specs.Frames.{both, patch, patch_in, patches_in, cell_in, is_ascending, if_ascending, store_in}
use Rattle.sal_data.specs.Laws.{IsReadable}
use Rattle.sal_follow.specs.Laws.{IsReadableFrom, IsReadableCell, IsReadableValue, IsReadableRow, IsReadableTree}
use Rattle.sal_follow.specs.Written.{cell_json, patch_json, store_json}
use Rattle.sal_follow.proofs.ReadsBack.{path-read, cell-read}

-- ---- lists

-- it holds of each element
abbrev pub Every : {A : Type 0} → (A → Type 0) → List A → Type 0
Every P [] = ⊤
Every P (x ∷ xs) = P x × Every P xs

module _ {A : Type 0} (P : A → Type 0) where
  pub every : (xs : List A) → All P xs → Every P xs
  every [] all = tt
  every (x ∷ xs) all = (All-head P x xs all, every xs (All-tail P x xs all))

  every_filter : (p : A → Bool) (xs : List A) → Every P xs → Every P (filter p xs)
  every_filter p [] all = tt
  every_filter p (x ∷ xs) all = elim (p x) as (λ b. Every P (cond b (x ∷ filter p xs) (filter p xs))) [
    | true ↦ (all.0, every_filter p xs all.1)
    | false ↦ every_filter p xs all.1
  ]

module _ {A B : Type 0} (P : B → Type 0) (f : A → B) where
  every_map : (xs : List A) → Every (λ x. P (f x)) xs → Every P (map f xs)
  every_map [] all = tt
  every_map (x ∷ xs) all = (all.0, every_map xs all.1)

module _ {A : Type 0} (P Q : A → Type 0) (weaker : (x : A) → P x → Q x) where
  every_weaker : (xs : List A) → Every P xs → Every Q xs
  every_weaker [] all = tt
  every_weaker (x ∷ xs) all = (weaker x all.0, every_weaker xs all.1)

-- ---- lists of rows

none_some : (c : Cell) → None ≡ Some c → ⊥
none_some c e = cc

same_some : (c d : Cell) → Some c ≡ Some d → c ≡ d
same_some c d e = cc

module _ (P : Row → Type 0) where
  all_set_row : (rows : List Row) (row : Row) → Every P rows → P row → Every P (set_row rows row)
  all_set_row [] row all it = (it, tt)
  all_set_row (x ∷ rows) row all it =
      elim (path_cmp row.path x.path) as (λ o. Every P (match_ordering o (row ∷ x ∷ rows) (row ∷ rows) (x ∷ set_row rows row))) [
        | Less ↦ (it, all)
        | Equal ↦ (it, all.1)
        | Greater ↦ (all.0, all_set_row rows row all.1 it)
      ]

  all_set : (after before : List Row) → Every P before → Every P after → Every P (fold set_row before after)
  all_set [] before b a = b
  all_set (row ∷ after) before b a = all_set after (set_row before row) (all_set_row before row b a.0) a.1

  at_first : (row : Row) (rows : List Row) (p : List Step) (c : Cell) → P row → (cell rows p ≡ Some c → P (record { path = p; cell = c })) → (b : Bool) → path_eq p row.path ≡ b → (if b then Some row.cell else cell rows p) ≡ Some c
      → P (record { path = p; cell = c })
  at_first row rows p c it rest true same is = subst P (λ i. record { path = sym (same_path p row.path same) i; cell = same_some row.cell c is i }) it
  at_first row rows p c it rest false other is = rest is

  -- a property of each row is one of the row at a path
  at_path : (rows : List Row) (p : List Step) (c : Cell) → Every P rows → cell rows p ≡ Some c → P (record { path = p; cell = c })
  at_path [] p c all e = absurd (none_some c e)
  at_path (row ∷ rows) p c all e = at_first row rows p c all.0 (at_path rows p c all.1) (path_eq p row.path) refl e

-- ---- rows that fit and are readable

module _ (table : SchemaTable) where
  -- a row that fits, with values that read as they are written
  record Good (row : Row) : Type 0 where
    pub readable : IsReadableRow table row
    pub path : fits_path table row.path ≡ true
    pub kind : cell_fits table row.path row.cell ≡ true

  good_rows : (tree rows : List Row) → list_all (row_fits table [] tree) rows ≡ true → Every (IsReadableRow table) rows → Every Good rows
  good_rows tree [] fit all = tt
  good_rows tree (row ∷ rows) fit all =
      let here = and_parts (row_fits table [] tree row) (list_all (row_fits table [] tree) rows) fit in
      let front = and_parts ((fits_path table row.path && is_prefix [] row.path) && (cell_fits table row.path row.cell && is_whole_above table tree [] row.path)) (not (is_root []) || not (is_in_message table row.path)) here.0 in
      let parts = and_parts (fits_path table row.path && is_prefix [] row.path) (cell_fits table row.path row.cell && is_whole_above table tree [] row.path) front.0 in (
        record {
          readable = all.0;
          path = (and_parts (fits_path table row.path) (is_prefix [] row.path) parts.0).0;
          kind = (and_parts (cell_fits table row.path row.cell) (is_whole_above table tree [] row.path) parts.1).0;
        },
        good_rows tree rows here.1 all.1,
      )

  -- if a cell fits, the node has its own row
  own_row : (path : List Step) (c : Cell) → cell_fits table path c ≡ true → has_own_row table path ≡ true
  own_row path Mark e = ap (λ b. b || is_at_leaf table (last_step path)) e
  own_row path (Leaf value) e = by (last_step path) e
    where
      by : (o : Option Step) → has_value table o value ≡ true → (has_mark table o || is_at_leaf table o) ≡ true
      by None e = cc
      by (Some (Node n)) e = or_right (has_mark table (Some (Node n))) (is_kind is_leaf table n) (and_parts (is_kind is_leaf table n) (is_of_node table n value) e).0
      by (Some (Key values)) e = cc
      by (Some (Item item)) e = cc

  readable_leaf : (o : Option Step) (value : Value) → has_value table o value ≡ true → IsReadableValue table o (Leaf value) → (n : ℕ) × (o ≡ Some (Node n)) × (is_kind is_leaf table n ≡ true) × IsReadable table n value
  readable_leaf None value e r = absurd (true≢false (sym e))
  readable_leaf (Some (Node n)) value e r = (n, refl, (and_parts (is_kind is_leaf table n) (is_of_node table n value) e).0, r)
  readable_leaf (Some (Key values)) value e r = absurd (true≢false (sym e))
  readable_leaf (Some (Item item)) value e r = absurd (true≢false (sym e))

  readable_cell : (path : List Step) (c : Cell) → cell_fits table path c ≡ true → IsReadableValue table (last_step path) c → IsReadableCell table path (Some c)
  readable_cell path Mark e r = e
  readable_cell path (Leaf value) e r = readable_leaf (last_step path) value e r

-- ---- patches

module _ (table : SchemaTable) where
  -- a patch that reads as it is written
  abbrev Reads : Patch → Type 0
  Reads p = patch_in table (patch_json table p) ≡ Some p

  patch_read : (p : Patch) → length p.path ≤ 32 → fits_path table p.path ≡ true → IsReadableFrom table None p.path → IsReadableCell table p.path p.cell → Reads p
  patch_read p short fits from readable =
      ap (option_and_then (λ path. option_map (patch path) (cell_in table path (cell_json table (node_of p.path) p.cell)))) (path-read table p.path short fits from)
      ∙ ap (option_map (patch p.path)) (cell-read table p.path p.cell readable)

  patches_read : (ps : List Patch) → Every Reads ps → patches_in table (items_of (map (patch_json table) ps)) ≡ Some ps
  patches_read [] all = refl
  patches_read (p ∷ ps) all = λ i. both (λ (p : Patch) ps. p ∷ ps) (all.0 i) (patches_read ps all.1 i)

  -- the cell of a tree at the path of a good row
  reads_after : (after : List Row) (row : Row) → Every (Good table) after → Good table row → Reads (record { path = row.path; cell = cell after row.path })
  reads_after after row all it = patch_read (record { path = row.path; cell = cell after row.path }) it.readable.short it.path it.readable.path (by (cell after row.path) refl)
    where
      by : (o : Option Cell) → cell after row.path ≡ o → IsReadableCell table row.path o
      by None e = own_row table row.path row.cell it.kind
      by (Some c) e = let there = at_path (Good table) after row.path c all e in readable_cell table row.path c there.kind there.readable.value

  -- ---- in order

  before_next : (c d : Change) (cs : List Change) → Rises (c ∷ d ∷ cs) → is_lt (path_cmp c.path d.path) ≡ true
  before_next c d cs h =
      let above : T (below_all path_cmp c.path (marks (d ∷ cs))) = first (below_all path_cmp c.path (marks (d ∷ cs))) (is_sorted path_cmp (marks (d ∷ cs))) h in
      IsTrue-from_T (is_lt (path_cmp c.path d.path)) (first (is_lt (path_cmp c.path d.path)) (below_all path_cmp c.path (marks cs)) above)

  rising : (cs : List Change) → Rises cs → is_ascending (map patch_by cs) ≡ true
  rising [] h = refl
  rising (c ∷ []) h = refl
  rising (c ∷ d ∷ cs) h =
      and_from (is_lt (path_cmp c.path d.path)) (is_ascending (map patch_by (d ∷ cs))) (before_next c d cs h)
      (rising (d ∷ cs) (second (below_all path_cmp c.path (marks (d ∷ cs))) (is_sorted path_cmp (marks (d ∷ cs))) h))

  -- ---- a tree and the next one

  module _ (before after : List Row) (b : IsReadableTree table before) (a : IsReadableTree table after) where
    good_before : Every (Good table) before
    good_before = good_rows table before before b.closed (every (IsReadableRow table) before b.readable)

    good_after : Every (Good table) after
    good_after = good_rows table after after a.closed (every (IsReadableRow table) after a.readable)

    all_read : Every Reads (patches before after)
    all_read =
        let rows : List Row = fold set_row before after in
        let there : Every (Good table) rows = all_set (Good table) after before good_before good_after in
        let each : Every (λ (c : Change). Reads (patch_by c)) (map (compared before after) rows) =
        every_map (λ (c : Change). Reads (patch_by c)) (compared before after) rows (every_weaker (Good table) (λ row. Reads (patch_by (compared before after row))) (λ row it. reads_after after row good_after it) rows there) in
        every_map Reads patch_by (changes before after) (every_filter (λ (c : Change). Reads (patch_by c)) (λ c. not (same_cell c.before c.after)) (map (compared before after) rows) each)

    pub store_read : store_in table (store_json table (patches before after)) ≡ Some (patches before after)
    store_read =
        let ps : List Patch = patches before after in
        ap (option_and_then if_ascending) (patches_read ps all_read) ∙ ap (λ b. if b then Some ps else None) (rising (changes before after) (rises-changes before after b.ascending))

    pub patches_lead : patched before (patches before after) ≡ after
    patches_lead = fold-map (λ (rows : List Row) (p : Patch). with_cell rows p.path p.cell) patch_by before (changes before after) ∙ with-changes before after b.ascending a.ascending
