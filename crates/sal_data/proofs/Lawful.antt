-- What holds at each path of rows that are whole.
use Rattle.std.proofs.Common.{◌≡◌, ◌⊎◌, inl, inr, ℕ, suc, ◌+◌, ◌≤◌, ◌<◌, Bool, true, false, not, ◌&&◌, ◌||◌, List, [], ◌∷◌, ◌++◌, length, Option, Some, None, refl, sym, ap, subst, ◌∙◌, arith, append-nil, length-append}
use Rattle.std.specs.Prelude.{is_some}
use Rattle.std.specs.List.{All}
use Rattle.std.proofs.lemmas.Bool.{and_parts, or_cases, true≢false, not-true}
use Rattle.std.proofs.lemmas.List.Elements.{All-head}
use Rattle.sal_types.specs.declared.value.Value.{Value}
use Rattle.sal_types.specs.declared.value.Cell.{Cell}
use Rattle.sal_types.specs.declared.value.Cell.TheVariants.{Mark, Leaf}
use Rattle.sal_types.specs.declared.value.Step.{Step}
use Rattle.sal_types.specs.declared.value.Step.TheVariants.{Node, Key, Item}
use Rattle.sal_types.specs.declared.row.Row.{Row}
use Rattle.sal_types.specs.Prefix.{is_prefix}
use Rattle.sal_types.specs.Tree.{cell}
use Rattle.sal_schema.specs.declared.table.SchemaTable.{SchemaTable}
use Rattle.sal_schema.specs.Fitting.{has_mark, has_value, is_at_leaf, has_own_row, cell_fits, prefixes, has_keys, is_whole_at, is_whole_above, is_in_message, is_root, row_fits}
use Rattle.sal_schema.specs.Kinds.{is_leaf, is_leaf_list, is_presence, has_entries, has_type, is_message}
use Rattle.sal_schema.specs.Paths.{may_follow, fits_path, last_step, node_of}
use Rattle.sal_schema.specs.Table.{is_kind, is_data_child}
use Rattle.sal_schema.specs.Valid.{IsTable}
use Rattle.sal_schema.specs.Values.{is_of_node}
use Rattle.sal_schema.proofs.Childless.{no_child}
use Rattle.sal_data.specs.Laws.{IsWhole, IsReadable, HasReadable, step_values}
use Rattle.sal_data.proofs.Listed.{In, In-map, list_all-In, All-In}
use Rattle.sal_data.proofs.Fronts.{In-cell}
use Rattle.sal_data.proofs.PathsFit.{last_step-end, node_of-node, node_of-item, Spot, root, step_here, after, at_object, after-end, after-node, step-behind, follows_object}
use Rattle.sal_data.proofs.KindFacts.{leaf-entries, leaf-type, leaf_list-type}

-- ---- prefixes

front-among : (p r : List Step) → In p (prefixes (p ++ r))
front-among [] [] = inl refl
front-among [] (s ∷ r) = inl refl
front-among (s ∷ p) r = inr (In-map (λ q. s ∷ q) p (prefixes (p ++ r)) (front-among p r))

or-other : (a b : Bool) → a ≡ true → (not a || b) ≡ true → b ≡ true
or-other true b is h = h
or-other false b is h = cc

some-there : (o : Option Cell) → is_some o ≡ true → (c : Cell) × (o ≡ Some c)
some-there None e = cc
some-there (Some c) e = (c, refl)

one-of : (P : Value → Type 0) (x : Value) (xs : List Value) → All P (x ∷ xs) → P x
one-of P x xs h = All-head P x xs h

-- ---- kinds

module _ (table : SchemaTable) (good : IsTable table) (at : List Step) (rows : List Row) (whole : IsWhole table at rows) where
  -- ---- at a row

  abbrev Fit : List Step → Cell → Type 0
  Fit r c = row_fits table at rows (record { path = r; cell = c }) ≡ true

  row_fit : (r : List Step) (c : Cell) → cell rows r ≡ Some c → Fit r c
  row_fit r c e = list_all-In (row_fits table at rows) (record { path = r; cell = c }) rows whole.fitting (In-cell rows r c e)

  front : (r : List Step) (c : Cell) → cell rows r ≡ Some c → ((fits_path table r && is_prefix at r) && (cell_fits table r c && is_whole_above table rows at r)) ≡ true
  front r c e = (and_parts ((fits_path table r && is_prefix at r) && (cell_fits table r c && is_whole_above table rows at r)) (not (is_root at) || not (is_in_message table r)) (row_fit r c e)).0

  pub path_fits : (r : List Step) (c : Cell) → cell rows r ≡ Some c → fits_path table r ≡ true
  path_fits r c e = (and_parts (fits_path table r) (is_prefix at r) (and_parts (fits_path table r && is_prefix at r) (cell_fits table r c && is_whole_above table rows at r) (front r c e)).0).0

  pub lies_below : (r : List Step) (c : Cell) → cell rows r ≡ Some c → is_prefix at r ≡ true
  lies_below r c e = (and_parts (fits_path table r) (is_prefix at r) (and_parts (fits_path table r && is_prefix at r) (cell_fits table r c && is_whole_above table rows at r) (front r c e)).0).1

  pub cell_is : (r : List Step) (c : Cell) → cell rows r ≡ Some c → cell_fits table r c ≡ true
  cell_is r c e = (and_parts (cell_fits table r c) (is_whole_above table rows at r) (and_parts (fits_path table r && is_prefix at r) (cell_fits table r c && is_whole_above table rows at r) (front r c e)).1).0

  above : (r : List Step) (c : Cell) → cell rows r ≡ Some c → is_whole_above table rows at r ≡ true
  above r c e = (and_parts (cell_fits table r c) (is_whole_above table rows at r) (and_parts (fits_path table r && is_prefix at r) (cell_fits table r c && is_whole_above table rows at r) (front r c e)).1).1

  pub no_message : (r : List Step) (c : Cell) → cell rows r ≡ Some c → (not (is_root at) || not (is_in_message table r)) ≡ true
  no_message r c e = (and_parts ((fits_path table r && is_prefix at r) && (cell_fits table r c && is_whole_above table rows at r)) (not (is_root at) || not (is_in_message table r)) (row_fit r c e)).1

  pub is_short : (r : List Step) (c : Cell) → cell rows r ≡ Some c → length r ≤ 32
  is_short r c e = All-In (λ (row : Row). length row.path ≤ 32) (record { path = r; cell = c }) rows whole.short (In-cell rows r c e)

  values_readable : (r : List Step) (c : Cell) → cell rows r ≡ Some c → HasReadable table (record { path = r; cell = c })
  values_readable r c e = All-In (HasReadable table) (record { path = r; cell = c }) rows whole.readable (In-cell rows r c e)

  -- ---- above a row

  -- a row below a path makes it whole
  pub whole_at : (p q : List Step) (c : Cell) → is_prefix at p ≡ true → cell rows (p ++ q) ≡ Some c → is_whole_at table rows p ≡ true
  whole_at p q c below e =
      or-other (is_prefix at p) (is_whole_at table rows p) below
      (list_all-In (λ q. not (is_prefix at q) || is_whole_at table rows q) p (prefixes (p ++ q)) (above (p ++ q) c e) (front-among p q))

  -- it has its mark
  pub mark_at : (p q : List Step) (c : Cell) → is_prefix at p ≡ true → cell rows (p ++ q) ≡ Some c → has_mark table (last_step p) ≡ true → (d : Cell) × (cell rows p ≡ Some d)
  mark_at p q c below e marked =
      some-there (cell rows p) (or-other (has_mark table (last_step p)) (is_some (cell rows p)) marked
      (and_parts (not (has_mark table (last_step p)) || is_some (cell rows p)) (has_keys table rows p (last_step p)) (whole_at p q c below e)).0)

  -- the step after the front of a row's path
  pub step_is_right : (p : List Step) (s : Step) (q : List Step) (c : Cell) → cell rows (p ++ s ∷ q) ≡ Some c → step_here table (after table (root table) p) s ≡ true
  step_is_right p s q c e = step-behind table p s q (path_fits (p ++ s ∷ q) c e)

  pub is_room : (p : List Step) (s : Step) (q : List Step) (c : Cell) → cell rows (p ++ s ∷ q) ≡ Some c → length p < 32
  is_room p s q c e = let short = is_short (p ++ s ∷ q) c e in let n : length (p ++ s ∷ q) ≡ length p + suc (length q) = length-append p (s ∷ q) in omega arith

  -- ---- leafs and leaf-lists end a path

  pub no_object_child : (p : List Step) (n : ℕ) (s : Step) (q : List Step) (c : Cell) → after table (root table) p ≡ at_object table (Some n) → is_kind has_type table n ≡ true → cell rows (p ++ s ∷ q) ≡ Some c → ⊥
  no_object_child p n s q c place typed e =
      let fits : step_here table (at_object table (Some n)) s ≡ true = subst (λ x. step_here table x s ≡ true) place (step_is_right p s q c e) in
      let (m, is, follows) = follows_object table (Some n) s fits in
      no_child table n m good typed follows

  pub leaf_ends : (p : List Step) (n : ℕ) (s : Step) (q : List Step) (c : Cell) → is_kind is_leaf table n ≡ true → cell rows ((p ++ Node n ∷ []) ++ s ∷ q) ≡ Some c → ⊥
  leaf_ends p n s q c leaf e =
      let none : is_kind has_entries table n ≡ false = leaf-entries table n leaf in
      no_object_child (p ++ Node n ∷ []) n s q c (after-node table p n ∙ ap (λ b. record { node = Some n; wants_entry = b }) none) (leaf-type table n leaf) e

  pub item_ends : (p : List Step) (n : ℕ) (value : Value) (s : Step) (q : List Step) (c : Cell) → is_kind is_leaf_list table n ≡ true → cell rows (((p ++ Node n ∷ []) ++ Item value ∷ []) ++ s ∷ q) ≡ Some c → ⊥
  item_ends p n value s q c list e =
      no_object_child ((p ++ Node n ∷ []) ++ Item value ∷ []) n s q c (after-end table (root table) (p ++ Node n ∷ []) (Item value) ∙ ap (λ x. record { node = x; wants_entry = false }) (ap (λ (x : Spot). x.node) (after-node table p n)))
      (leaf_list-type table n list) e

  -- ---- rows of their own

  -- at a node a row is the mark of a presence container or the value of a leaf
  pub row_at_node : (p : List Step) (n : ℕ) (c : Cell) → cell rows (p ++ Node n ∷ []) ≡ Some c
      → ((is_kind is_presence table n ≡ true) × (c ≡ Mark)) ⊎ ((is_kind is_leaf table n ≡ true) × ((value : Value) × (c ≡ Leaf value)))
  row_at_node p n Mark e = inl (ap (has_mark table) (sym (last_step-end p (Node n))) ∙ cell_is (p ++ Node n ∷ []) Mark e, refl)
  row_at_node p n (Leaf value) e =
      let is = ap (λ s. has_value table s value) (sym (last_step-end p (Node n))) ∙ cell_is (p ++ Node n ∷ []) (Leaf value) e in
      inr ((and_parts (is_kind is_leaf table n) (is_of_node table n value) is).0, (value, refl))

  -- at an entry it is a mark
  pub row_at_key : (p : List Step) (values : List Value) (c : Cell) → cell rows (p ++ Key values ∷ []) ≡ Some c → c ≡ Mark
  row_at_key p values Mark e = refl
  row_at_key p values (Leaf value) e =
      absurd (true≢false (sym (cell_is (p ++ Key values ∷ []) (Leaf value) e) ∙ ap (λ s. has_value table s value) (last_step-end p (Key values))))

  pub row_at_item : (p : List Step) (value : Value) (c : Cell) → cell rows (p ++ Item value ∷ []) ≡ Some c → c ≡ Mark
  row_at_item p value Mark e = refl
  row_at_item p value (Leaf other) e =
      absurd (true≢false (sym (cell_is (p ++ Item value ∷ []) (Leaf other) e) ∙ ap (λ s. has_value table s other) (last_step-end p (Item value))))

  pub no_row_at_root : (c : Cell) → cell rows [] ≡ Some c → ⊥
  no_row_at_root Mark e = true≢false (sym (cell_is [] Mark e))
  no_row_at_root (Leaf value) e = true≢false (sym (cell_is [] (Leaf value) e))

  -- ---- readable values

  pub leaf_readable : (p : List Step) (n : ℕ) (value : Value) → cell rows (p ++ Node n ∷ []) ≡ Some (Leaf value) → IsReadable table n value
  leaf_readable p n value e =
      let all = values_readable (p ++ Node n ∷ []) (Leaf value) e n (node_of-node p n) in
      one-of (IsReadable table n) value _ all

  pub item_readable : (p : List Step) (n : ℕ) (value : Value) (c : Cell) → node_of p ≡ Some n → cell rows (p ++ Item value ∷ []) ≡ Some c → IsReadable table n value
  item_readable p n value c node e =
      let marked = e ∙ ap Some (row_at_item p value c e) in
      let all = values_readable (p ++ Item value ∷ []) Mark marked n (node_of-item p value ∙ node) in
      one-of (IsReadable table n) value [] (subst (λ s. All (IsReadable table n) (step_values s)) (last_step-end p (Item value)) all)

  -- ---- a path has its own row if it must have one

  abbrev pub HasOwn : List Step → Type 0
  HasOwn p = has_own_row table p ≡ true → (c : Cell) × (cell rows p ≡ Some c)

  pub own_at_top : HasOwn at
  own_at_top has = some-there (cell rows at) (or-other (has_own_row table at) (is_some (cell rows at)) has whole.own)

  -- of a node that has a row at it or below it
  pub own_at_node : (p : List Step) (n : ℕ) (q : List Step) (c : Cell) → is_prefix at (p ++ Node n ∷ []) ≡ true → cell rows ((p ++ Node n ∷ []) ++ q) ≡ Some c → HasOwn (p ++ Node n ∷ [])
  own_at_node p n q c below e has =
      elim (or_cases (has_mark table (last_step (p ++ Node n ∷ []))) (is_at_leaf table (last_step (p ++ Node n ∷ []))) has) [
        | inl marked ↦ mark_at (p ++ Node n ∷ []) q c below e marked
        | inr at_leaf ↦ by q (ap (is_at_leaf table) (sym (last_step-end p (Node n))) ∙ at_leaf) e
      ]
    where
      by : (q : List Step) → is_kind is_leaf table n ≡ true → cell rows ((p ++ Node n ∷ []) ++ q) ≡ Some c → (d : Cell) × (cell rows (p ++ Node n ∷ []) ≡ Some d)
      by [] leaf e = (c, ap (cell rows) (sym (append-nil (p ++ Node n ∷ []))) ∙ e)
      by (s ∷ q) leaf e = absurd (leaf_ends p n s q c leaf e)

  -- ---- children

  at_root : (r : List Step) → is_prefix r [] ≡ true → r ≡ []
  at_root [] e = refl
  at_root (s ∷ r) e = cc

  no_message_at_root : (n : ℕ) (q : List Step) (c : Cell) → at ≡ [] → is_kind is_message table n ≡ true → cell rows (Node n ∷ q) ≡ Some c → ⊥
  no_message_at_root n q c empty message e =
      let none : (not true || not (is_kind is_message table n)) ≡ true = sym (ap (λ r. not (is_root r) || not (is_kind is_message table n)) empty) ∙ no_message (Node n ∷ q) c e in
      true≢false (sym message ∙ not-true (is_kind is_message table n) none)

  -- in an object the next step of each row's path is a child
  pub child_step : (p : List Step) (parent : Option ℕ) (s : Step) (q : List Step) (c : Cell) → after table (root table) p ≡ at_object table parent → is_prefix at p ≡ true → (parent ≡ None → p ≡ [])
      → cell rows (p ++ s ∷ q) ≡ Some c → (n : ℕ) × (s ≡ Node n) × (is_data_child table parent n ≡ true)
  child_step p parent s q c place below empty e =
      let fits : step_here table (at_object table parent) s ≡ true = subst (λ x. step_here table x s ≡ true) place (step_is_right p s q c e) in
      let (n, is, follows) = follows_object table parent s fits in
      (n, is, by parent n is follows empty)
    where
      by : (parent : Option ℕ) (n : ℕ) → s ≡ Node n → may_follow table parent n ≡ true → (parent ≡ None → p ≡ []) → is_data_child table parent n ≡ true
      by (Some m) n is follows empty = follows
      by None n is follows empty =
          elim (or_cases (is_data_child table None n) (is_kind is_message table n) follows) [
            | inl data_child ↦ data_child
            | inr message ↦
                let none : p ≡ [] = empty refl in
                let here : cell rows (Node n ∷ q) ≡ Some c = sym (λ i. cell rows (none i ++ is i ∷ q)) ∙ e in
                absurd (no_message_at_root n q c (at_root at (ap (is_prefix at) (sym none) ∙ below)) message here)
          ]
