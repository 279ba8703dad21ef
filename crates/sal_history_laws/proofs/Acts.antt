-- One operation on a closed tree.
use Rattle.std.proofs.Common.{◌≡◌, ℕ, true, false, not, List, [], ◌∷◌, ◌++◌, Option, Some, None, refl, sym, ap, ◌∙◌, if◌then◌else◌}
use Rattle.std.specs.Prelude.{option_map}
use Rattle.std.specs.Ordering.{eq_by_cmp}
use Rattle.std.proofs.lemmas.Bool.{and_parts, true≢false}
use Rattle.sal_types.specs.declared.value.Cell.{Cell}
use Rattle.sal_types.specs.declared.value.Step.{Step}
use Rattle.sal_types.specs.declared.value.Step.TheVariants.{Node, Key, Item}
use Rattle.sal_types.specs.declared.row.Row.{Row}
use Rattle.sal_types.specs.Order.{step_cmp}
use Rattle.sal_types.specs.Prefix.{is_prefix}
use Rattle.sal_types.specs.Tree.{cell, has}
use Rattle.sal_types.proofs.Prefixes.{is_prefix-append}
use Rattle.sal_rows.specs.declared.op.Act.{Act}
use Rattle.sal_rows.specs.declared.op.Act.TheVariants.{Put, Merge, Delete, Read}
use Rattle.sal_rows.specs.Apply.{act_setting, cell_by, rows_of_act}
use Rattle.sal_rows.proofs.Untouched.{no_cell}
use Rattle.sal_schema.specs.declared.table.SchemaTable.{SchemaTable}
use Rattle.sal_schema.specs.Fitting.{has_mark, is_whole_at, is_in_message, is_root, is_at_key, is_key_leaf}
use Rattle.sal_schema.specs.Paths.{last_step}
use Rattle.sal_schema.specs.Table.{is_among}
use Rattle.sal_schema.specs.Valid.{IsTable}
use Rattle.sal_rows.specs.Clash.{needs_parents}
use Rattle.sal_history_laws.proofs.Fronts.{same_step, front_itself, front_through, either_front, front_of_more, last_step-end}
use Rattle.sal_history_laws.proofs.Standing.{nothing, stands_below}
use Rattle.sal_history_laws.proofs.Wholes.{Fits, AllFit, AllFit-same, leafs_at, unmarked-whole, same_whole, more_whole, among-key}

-- there is a row at or below each entry and presence container above a path
abbrev pub HasParents : SchemaTable → List Row → List Step → Type 0
HasParents table tree p = (q : List Step) → is_root q ≡ false → is_prefix q p ≡ true → is_prefix p q ≡ false → has_mark table (last_step q) ≡ true → has tree q ≡ true

-- the properties of an act that fits the schema and is not refused
pub record IsAllowed (table : SchemaTable) (p : List Step) (act : Act) : Type 0 where
  pub inside : is_root p ≡ false
  pub no_key : is_key_leaf table p ≡ false
  pub outside : is_in_message table p ≡ false
  pub rows : AllFit table p (rows_of_act act)

-- the first step decides whether a path is part of an RPC or a notification
in_message-front : (table : SchemaTable) (p r : List Step) → is_root p ≡ false → is_prefix p r ≡ true → is_in_message table p ≡ is_in_message table r
in_message-front table [] r inside below = cc
in_message-front table (s ∷ p) [] inside below = cc
in_message-front table (s ∷ p) (t ∷ r) inside below = by s t (same_step s t (and_parts (eq_by_cmp step_cmp s t) (is_prefix p r) below).0)
  where
    alone : (s : Step) (x y : List Step) → is_in_message table (s ∷ x) ≡ is_in_message table (s ∷ y)
    alone (Node n) x y = refl
    alone (Key values) x y = refl
    alone (Item value) x y = refl

    by : (s t : Step) → s ≡ t → is_in_message table (s ∷ p) ≡ is_in_message table (t ∷ r)
    by s t e = alone s p r ∙ ap (λ x. is_in_message table (x ∷ r)) e

-- an act sets only paths at or below its own
setting_beside : (p : List Step) (act : Act) (r : List Step) (c : Option Cell) → ((r : List Step) (d : Cell) → cell (rows_of_act act) r ≡ Some d → is_prefix p r ≡ true) → is_prefix p r ≡ false
    → cell_by (act_setting p act r) c ≡ c
setting_beside p (Put rows) r c lie beside = ap (λ b. cell_by (if b then Some (cell rows r) else None) c) beside
setting_beside p Delete r c lie beside = ap (λ b. cell_by (if b then Some None else None) c) beside
setting_beside p Read r c lie beside = refl
setting_beside p (Merge rows) r c lie beside =
    elim (cell rows r) as (λ o. cell rows r ≡ o → cell_by (option_map Some o) c ≡ c) [
      | None ↦ λ e. refl
      | Some d ↦ λ e. absurd (true≢false (sym (lie r d e) ∙ beside))
    ] refl

module _ (table : SchemaTable) (good : IsTable table) (p : List Step) (act : Act) (allowed : IsAllowed table p act) (before after : List Row) (closed : AllFit table [] before)
    (cells : (r : List Step) → cell after r ≡ cell_by (act_setting p act r) (cell before r)) (parents : needs_parents act ≡ true → HasParents table before p) where
  -- ---- paths that are not at or below it

  beside : (r : List Step) → is_prefix p r ≡ false → cell after r ≡ cell before r
  beside r out = cells r ∙ setting_beside p act r (cell before r) (λ x d e. (allowed.rows x d e).below) out

  -- a key leaf of an entry at another path is at another path: the path is not a key leaf
  key_beside : (q : List Step) (leaf : ℕ) → is_prefix p q ≡ false → is_among leaf (leafs_at table q) ≡ true → is_prefix p (q ++ Node leaf ∷ []) ≡ false
  key_beside q leaf out among =
      elim (is_prefix p (q ++ Node leaf ∷ [])) as (λ b. is_prefix p (q ++ Node leaf ∷ []) ≡ b → b ≡ false) [
        | true ↦ λ e.
            let is : p ≡ q ++ Node leaf ∷ [] = front_of_more p q (Node leaf) e out in
            let key : is_key_leaf table p ≡ true = ap (is_key_leaf table) is ∙ ap (is_at_key table) (last_step-end q (Node leaf)) ∙ among-key table q leaf good among in
            absurd (true≢false (sym key ∙ allowed.no_key))
        | false ↦ λ e. refl
      ] refl

  whole_beside : (q : List Step) → is_prefix p q ≡ false → is_whole_at table before q ≡ true → is_whole_at table after q ≡ true
  whole_beside q out whole = same_whole after before q table (beside q out) (λ leaf among. beside (q ++ Node leaf ∷ []) (key_beside q leaf out among)) ∙ whole

  -- a prefix of the path was whole before
  above_whole : needs_parents act ≡ true → (q : List Step) → is_prefix q p ≡ true → is_prefix p q ≡ false → is_whole_at table before q ≡ true
  above_whole needs q over out =
      elim (has_mark table (last_step q)) as (λ b. has_mark table (last_step q) ≡ b → is_whole_at table before q ≡ true) [
        | true ↦ λ marked.
            let (r, c, below, e) = stands_below before q (parents needs q (inside q marked) over out marked) in
            (closed r c e).whole q below refl
        | false ↦ λ plain. unmarked-whole table before q plain
      ] refl
    where
      inside : (q : List Step) → has_mark table (last_step q) ≡ true → is_root q ≡ false
      inside [] e = cc
      inside (s ∷ q) e = refl

  -- ---- a row from before, and a row of the act, where what is at the path and below is whole

  from_before : (r : List Step) (c : Cell) → cell before r ≡ Some c → ((q : List Step) → is_prefix q r ≡ true → is_prefix p q ≡ true → is_whole_at table after q ≡ true) → Fits table [] after r c
  from_before r c e low =
      let it = closed r c e in
      record {
        path = it.path;
        below = refl;
        kind = it.kind;
        whole = λ q front _. elim (is_prefix p q) as (λ b. is_prefix p q ≡ b → is_whole_at table after q ≡ true) [
          | true ↦ λ under. low q front under
          | false ↦ λ out. whole_beside q out (it.whole q front refl)
        ] refl;
        outside = it.outside;
      }

  from_act : needs_parents act ≡ true → (r : List Step) (c : Cell) → cell (rows_of_act act) r ≡ Some c → ((q : List Step) → is_prefix q r ≡ true → is_prefix p q ≡ true → is_whole_at table after q ≡ true) → Fits table [] after r c
  from_act needs r c e low =
      let it = allowed.rows r c e in
      record {
        path = it.path;
        below = refl;
        kind = it.kind;
        whole = λ q front _. elim (is_prefix p q) as (λ b. is_prefix p q ≡ b → is_whole_at table after q ≡ true) [
          | true ↦ λ under. low q front under
          | false ↦ λ out. whole_beside q out (above_whole needs q (either_front p q r it.below front out) out)
        ] refl;
        outside = ap not (sym (in_message-front table p r allowed.inside it.below) ∙ allowed.outside);
      }

  -- a row at another path has no prefix at or below the path
  only_beside : (r : List Step) → is_prefix p r ≡ false → (q : List Step) → is_prefix q r ≡ true → is_prefix p q ≡ true → is_whole_at table after q ≡ true
  only_beside r out q front under = absurd (true≢false (sym (front_through p q r under front) ∙ out))

-- ---- the acts

more_front : (p q : List Step) (s : Step) → is_prefix p q ≡ true → is_prefix p (q ++ s ∷ []) ≡ true
more_front p q s under = front_through p q (q ++ s ∷ []) under (is_prefix-append q (s ∷ []))

module _ (table : SchemaTable) (good : IsTable table) (p : List Step) (before after : List Row) (closed : AllFit table [] before) where
  put_fits : (rows : List Row) → IsAllowed table p (Put rows) → ((r : List Step) → cell after r ≡ cell_by (act_setting p (Put rows) r) (cell before r)) → HasParents table before p → AllFit table [] after
  put_fits rows allowed cells parents r c e =
      elim (is_prefix p r) as (λ b. is_prefix p r ≡ b → Fits table [] after r c) [
        | true ↦ λ under.
            let here = sym (at r under) ∙ e in
            from_act table good p (Put rows) allowed before after closed cells (λ _. parents) refl r c here (λ q front low. same_whole after rows q table (at q low) (λ leaf among. at (q ++ Node leaf ∷ []) (more_front p q (Node leaf) low)) ∙ (allowed.rows r c here).whole q front low)
        | false ↦ λ out.
            let were = sym (beside table good p (Put rows) allowed before after closed cells (λ _. parents) r out) ∙ e in
            from_before table good p (Put rows) allowed before after closed cells (λ _. parents) r c were (only_beside table good p (Put rows) allowed before after closed cells (λ _. parents) r out)
      ] refl
    where
      at : (x : List Step) → is_prefix p x ≡ true → cell after x ≡ cell rows x
      at x under = cells x ∙ ap (λ b. cell_by (if b then Some (cell rows x) else None) (cell before x)) under

  delete_fits : IsAllowed table p Delete → ((r : List Step) → cell after r ≡ cell_by (act_setting p Delete r) (cell before r)) → AllFit table [] after
  delete_fits allowed cells r c e =
      elim (is_prefix p r) as (λ b. is_prefix p r ≡ b → Fits table [] after r c) [
        | true ↦ λ under. absurd (nothing (sym (cells r ∙ ap (λ b. cell_by (if b then Some None else None) (cell before r)) under) ∙ e))
        | false ↦ λ out.
            let were = sym (beside table good p Delete allowed before after closed cells none r out) ∙ e in
            from_before table good p Delete allowed before after closed cells none r c were (only_beside table good p Delete allowed before after closed cells none r out)
      ] refl
    where
      none : needs_parents Delete ≡ true → HasParents table before p
      none needs = absurd (true≢false (sym needs))

  merge_fits : (rows : List Row) → IsAllowed table p (Merge rows) → ((r : List Step) → cell after r ≡ cell_by (act_setting p (Merge rows) r) (cell before r)) → HasParents table before p → AllFit table [] after
  merge_fits rows allowed cells parents r c e =
      elim (cell rows r) as (λ o. cell rows r ≡ o → Fits table [] after r c) [
        | Some d ↦ λ there.
            let is : cell rows r ≡ Some c = there ∙ sym (grows r d there) ∙ e in
            from_act table good p (Merge rows) allowed before after closed cells (λ _. parents) refl r c is (λ q front under. more_whole rows after q table grows ((allowed.rows r c is).whole q front under))
        | None ↦ λ none.
            let were : cell before r ≡ Some c = sym (stays r none) ∙ e in
            from_before table good p (Merge rows) allowed before after closed cells (λ _. parents) r c were (λ q front under. low q under ((closed r c were).whole q front refl))
      ] refl
    where
      grows : (x : List Step) (d : Cell) → cell rows x ≡ Some d → cell after x ≡ Some d
      grows x d there = cells x ∙ ap (λ o. cell_by (option_map Some o) (cell before x)) there

      stays : (x : List Step) → cell rows x ≡ None → cell after x ≡ cell before x
      stays x none = cells x ∙ ap (λ o. cell_by (option_map Some o) (cell before x)) none

      -- a path at or below it that was whole stays whole, by the merged rows or unchanged
      low : (q : List Step) → is_prefix p q ≡ true → is_whole_at table before q ≡ true → is_whole_at table after q ≡ true
      low q under whole =
          elim (has rows q) as (λ b. has rows q ≡ b → is_whole_at table after q ≡ true) [
            | true ↦ λ h. let (x, d, below, there) = stands_below rows q h in more_whole rows after q table grows ((allowed.rows x d there).whole q below under)
            | false ↦ λ h.
                same_whole after before q table (stays q (no_cell (is_prefix q) rows q h (front_itself q))) (λ leaf among. stays (q ++ Node leaf ∷ []) (no_cell (is_prefix q) rows (q ++ Node leaf ∷ []) h (is_prefix-append q (Node leaf ∷ []))))
                ∙ whole
          ] refl

-- an act that is allowed over a closed tree gives a closed tree
pub act_fits : (table : SchemaTable) (p : List Step) (act : Act) (before after : List Row) → IsTable table → IsAllowed table p act → AllFit table [] before
    → ((r : List Step) → cell after r ≡ cell_by (act_setting p act r) (cell before r)) → (needs_parents act ≡ true → HasParents table before p) → AllFit table [] after
act_fits table p (Put rows) before after good allowed closed cells parents = put_fits table good p before after closed rows allowed cells (parents refl)
act_fits table p (Merge rows) before after good allowed closed cells parents = merge_fits table good p before after closed rows allowed cells (parents refl)
act_fits table p Delete before after good allowed closed cells parents = delete_fits table good p before after closed allowed cells
act_fits table p Read before after good allowed closed cells parents = AllFit-same table [] before after cells closed
