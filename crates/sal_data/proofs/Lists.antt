-- What is written for a list, and for a container, reads as its rows.
use Rattle.std.proofs.Common.{◌≡◌, ◌⊎◌, inl, inr, ℕ, zero, suc, ◌+◌, ◌≤◌, ◌<◌, Bool, true, false, not, List, [], ◌∷◌, ◌++◌, length, Option, Some, None, Ok, Err, refl, sym, ap, subst, ◌∙◌, arith, append_assoc, append-nil, if◌then◌else◌}
use Rattle.std.specs.Prelude.{◌||◌, is_some}
use Rattle.std.specs.List.{slice_get}
use Rattle.std.specs.Option.{option_map_or}
use Rattle.std.proofs.lemmas.Bool.{cases_Bool, and_parts, or_left, true≢false}
use Rattle.serde_json.specs.Data.{Data, array, object, Items, Members, no_members}
use Rattle.serde_json.specs.View.{items_of}
use Rattle.sal_types.specs.declared.value.Value.{Value}
use Rattle.sal_types.specs.declared.value.Cell.{Cell}
use Rattle.sal_types.specs.declared.value.Cell.TheVariants.{Mark, Leaf}
use Rattle.sal_types.specs.declared.value.Step.{Step}
use Rattle.sal_types.specs.declared.value.Step.TheVariants.{Node, Key}
use Rattle.sal_types.specs.declared.row.Row.{Row}
use Rattle.sal_types.specs.Prefix.{is_prefix}
use Rattle.sal_types.specs.Tree.{cell}
use Rattle.sal_schema.specs.declared.table.SchemaTable.{SchemaTable}
use Rattle.sal_schema.specs.Fitting.{has_mark, is_at_leaf, has_own_row, has_keys, has_key_leafs}
use Rattle.sal_schema.specs.Kinds.{is_leaf, is_leaf_list, is_list, is_presence, has_entries}
use Rattle.sal_schema.specs.Paths.{are_of_nodes, last_step, node_of}
use Rattle.sal_schema.specs.Table.{is_kind, keys_of}
use Rattle.sal_schema.specs.Valid.{IsTable}
use Rattle.sal_data.specs.declared.fault.DataFault.TheVariants.{WrongShape}
use Rattle.sal_data.specs.Laws.{IsWhole}
use Rattle.sal_data.specs.Read.{Reading, marked, leaf_rows, key_values, key_step, items_rows, entries_rows, object_rows, members_rows, node_rows}
use Rattle.sal_data.specs.Written.{members_json, entry_json, entries_json, node_json, step_of, runs_of}
use Rattle.sal_data.proofs.Listed.{In}
use Rattle.sal_data.proofs.ObjectMembers.{build}
use Rattle.sal_data.proofs.Fronts.{length-more, longer_prefix}
use Rattle.sal_data.proofs.PathsFit.{last_step-end, node_of-node, node_of-key, root, after, next, at_node, at_object, step_here, after-node, after-end, follows_list}
use Rattle.sal_data.proofs.Lawful.{step_is_right, is_room, is_short, row_at_node, row_at_key, mark_at, whole_at, own_at_node, HasOwn}
use Rattle.sal_data.proofs.Composed.{Gives, GivesBelow, EntryGives, AreEntries, entries_give, bind_is, from_below, with_mark, Gives-same}
use Rattle.sal_data.proofs.Objects.{EachGives, LeafReads, object_gives, keys_read}
use Rattle.sal_data.proofs.Parts.{IsPart, runs, row_of, run_of, part_of}
use Rattle.sal_data.proofs.RunsApart.{AreRuns}
use Rattle.sal_data.proofs.Steps.{onto_steps, steps_of, steps-In, steps-Apart}
use Rattle.sal_data.proofs.Leafs.{leaf_reads, leaf_gives, leaf_list_gives}
use Rattle.sal_data.proofs.KindFacts.{list-leaf, list-presence, no_entries}

-- ---- kinds

never_none : (n : ℕ) (path : List Step) → ◌≡◌ {A = Option ℕ} (Some n) None → path ≡ []
never_none n path e = cc

-- ---- what is written for a node, by its kind

module _ (levels : ℕ) (table : SchemaTable) (n k : ℕ) (here : List Row) where
  node_json-list : is_kind is_leaf table n ≡ false → is_kind is_leaf_list table n ≡ false → is_kind is_list table n ≡ true
      → node_json (suc levels) table n k here ≡ array (items_of (entries_json table n (node_json levels table) k (runs_of k here)))
  unfolding node_json
  node_json-list e f g = rw e (rw f (rw g refl))

  node_json-object : is_kind is_leaf table n ≡ false → is_kind is_leaf_list table n ≡ false → is_kind is_list table n ≡ false
      → node_json (suc levels) table n k here ≡ members_json table (Some n) (node_json levels table) k here
  unfolding node_json
  node_json-object e f g = rw e (rw f (rw g refl))

module _ (table : SchemaTable) (good : IsTable table) (at : List Step) (rows : List Row) (whole : IsWhole table at rows) where
  abbrev pub Own : List Step → Type 0
  Own p = HasOwn table good at rows whole p

  -- the JSON that is written with this many levels reads as the rows
  abbrev pub LevelGives : ℕ → Type 0
  LevelGives levels = (p : List Step) (n : ℕ) (here : List Row) → 1 ≤ levels → 32 < levels + length (p ++ Node n ∷ []) → IsPart rows (p ++ Node n ∷ []) here → is_prefix at (p ++ Node n ∷ []) ≡ true
      → Own (p ++ Node n ∷ []) → Gives rows (p ++ Node n ∷ []) (node_rows table n (p ++ Node n ∷ []) (node_json levels table n (length (p ++ Node n ∷ [])) here))

  enough : (levels a b : ℕ) → a ≤ 32 → b ≤ a → 32 < levels + b → 1 ≤ levels
  enough levels a b h i j = omega arith

  shorter : (p q : List Step) → length p ≤ length (p ++ q)
  shorter [] q = omega arith
  shorter (s ∷ p) q = let h = shorter p q in omega arith

  there_are_levels : (levels : ℕ) (path : List Step) (n : ℕ) (q : List Step) (c : Cell) → 32 < levels + (length path + 1) → cell rows ((path ++ Node n ∷ []) ++ q) ≡ Some c → 1 ≤ levels
  there_are_levels levels path n q c room e =
      let same : length (path ++ Node n ∷ []) ≡ length path + 1 = length-more path (Node n) in
      let room2 : 32 < levels + length (path ++ Node n ∷ []) = omega arith in
      enough levels (length ((path ++ Node n ∷ []) ++ q)) (length (path ++ Node n ∷ [])) (is_short table good at rows whole ((path ++ Node n ∷ []) ++ q) c e) (shorter (path ++ Node n ∷ []) q) room2

  -- so each member of an object does
  pub each_gives : (levels : ℕ) (parent : Option ℕ) (path here : _) (part : IsPart rows path here) (place : after table (root table) path ≡ at_object table parent) (below : is_prefix at path ≡ true) (empty : parent ≡ None → path ≡ [])
      → LevelGives levels → 32 < levels + (length path + 1) → EachGives table good at rows whole (node_json levels table) parent path here part place below empty
  each_gives levels parent path here part place below empty gives room n run mine q c e =
      let some = there_are_levels levels path n q c room e in
      let same : length (path ++ Node n ∷ []) ≡ length path + 1 = length-more path (Node n) in
      let under = longer_prefix at path (Node n) below in
      gives path n run some (omega arith) mine under (own_at_node table good at rows whole path n q c under e)

  -- and the leafs of keys read
  each_reads : (levels : ℕ) (parent : Option ℕ) (path here : _) (part : IsPart rows path here) (place : after table (root table) path ≡ at_object table parent) (below : is_prefix at path ≡ true) (empty : parent ≡ None → path ≡ [])
      → 32 < levels + (length path + 1) → LeafReads table good at rows whole (node_json levels table) parent path here part place below empty
  each_reads levels parent path here part place below empty room n value run mine e =
      let there : cell rows ((path ++ Node n ∷ []) ++ []) ≡ Some (Leaf value) = ap (cell rows) (append-nil (path ++ Node n ∷ [])) ∙ e in
      leaf_reads table good at rows whole path n run mine levels value (there_are_levels levels path n [] (Leaf value) room there) e

  -- ---- an entry of a list

  module _ (levels : ℕ) (gives : LevelGives levels) (n : ℕ) (p : List Step) (values : List Value) (here : List Row) (part : IsPart rows (p ++ Key values ∷ []) here)
      (place : after table (root table) (p ++ Key values ∷ []) ≡ at_object table (Some n)) (below : is_prefix at (p ++ Key values ∷ []) ≡ true) (known : node_of p ≡ Some n) (fit : are_of_nodes table (keys_of table n) values ≡ true)
      (room : 32 < levels + (length (p ++ Key values ∷ []) + 1)) (q : List Step) (c : Cell) (row : cell rows ((p ++ Key values ∷ []) ++ q) ≡ Some c) where
    abbrev entry : List Step
    entry = p ++ Key values ∷ []

    abbrev pub entry_members : Members
    entry_members = build table (Some n) (node_json levels table) (length entry) no_members (runs_of (length entry) here)

    pub entry_found : (seen : List Step) → key_step table n seen (object entry_members) ≡ Ok (Key values)
    entry_found seen =
        let (marked, keyed) = and_parts (not (has_mark table (last_step entry)) || is_some (cell rows entry)) (has_keys table rows entry (last_step entry)) (whole_at table good at rows whole entry q c below row) in
        let keyed2 : has_keys table rows entry (Some (Key values)) ≡ true = ap (has_keys table rows entry) (sym (last_step-end p (Key values))) ∙ keyed in
        let has : has_key_leafs rows entry (keys_of table n) values ≡ true =
        sym (ap (λ o. has_key_leafs rows entry (option_map_or (keys_of table) o []) values) (node_of-key p values ∙ known)) ∙ keyed2 in
        bind_is (key_values table n seen entry_members (keys_of table n)) (λ values. Ok (Key values)) values
        (keys_read table good at rows whole (node_json levels table) n entry here part place below (never_none n entry)
        (each_reads levels (Some n) entry here part place below (never_none n entry) room) seen (keys_of table n) values has fit)

    pub entry_gives : Gives rows (p ++ Key values ∷ []) (marked true (p ++ Key values ∷ []) (object_rows table (Some n) (p ++ Key values ∷ []) (object entry_members)))
    entry_gives =
        let (d, mark) = mark_at table good at rows whole entry q c below row (ap (has_mark table) (last_step-end p (Key values))) in
        with_mark rows entry (members_rows table (Some n) entry entry_members) (mark ∙ ap Some (row_at_key table good at rows whole p values d mark))
        (object_gives table good at rows whole (node_json levels table) (Some n) entry here part place below (never_none n entry)
        (each_gives levels (Some n) entry here part place below (never_none n entry) gives room))

  -- ---- a list

  module _ (levels : ℕ) (gives : LevelGives levels) (p : List Step) (n : ℕ) (here : List Row) (part : IsPart rows (p ++ Node n ∷ []) here) (below : is_prefix at (p ++ Node n ∷ []) ≡ true) (room : 32 < suc levels + length (p ++ Node n ∷ [])) where
    abbrev path : List Step
    path = p ++ Node n ∷ []

    module _ (list : is_kind is_list table n ≡ true) where
      no_row : (c : Cell) → cell rows (p ++ Node n ∷ []) ≡ Some c → ⊥
      no_row c e = elim (row_at_node table good at rows whole p n c e) [
        | inl (presence, is_mark) ↦ true≢false (sym presence ∙ list-presence table n list)
        | inr (leaf, more) ↦ true≢false (sym leaf ∙ list-leaf table n list)
      ]

      abbrev value_of : List Row → Data
      value_of run = members_json table (Some n) (node_json levels table) (length (p ++ Node n ∷ []) + 1) run

      abbrev IsEntry : List Row → Type 0
      IsEntry run = (values : List Value) × (step_of (length (p ++ Node n ∷ [])) run ≡ Some (Key values)) × EntryGives rows table n (p ++ Node n ∷ []) (Key values) (value_of run)

      entry_of : (run : List Row) → In run (runs_of (length (p ++ Node n ∷ [])) here) → (values : List Value) → step_of (length (p ++ Node n ∷ [])) run ≡ Some (Key values) → are_of_nodes table (keys_of table n) values ≡ true
          → (q : List Step) (c : Cell) → cell rows ((p ++ Node n ∷ []) ++ Key values ∷ q) ≡ Some c → EntryGives rows table n (p ++ Node n ∷ []) (Key values) (value_of run)
      entry_of run there values step fit q c e =
          let mine = part_of rows path here part run (Key values) there step in
          let place : after table (root table) (path ++ Key values ∷ []) ≡ at_object table (Some n) =
          after-end table (root table) path (Key values) ∙ ap (λ spot. next table spot (Key values)) (after-node table p n) in
          let under = longer_prefix at path (Key values) below in
          let length_is : length (path ++ Key values ∷ []) ≡ length path + 1 = length-more path (Key values) in
          let deeper : 32 < levels + (length (path ++ Key values ∷ []) + 1) = omega arith in
          let row : cell rows ((path ++ Key values ∷ []) ++ q) ≡ Some c = ap (cell rows) (append_assoc path (Key values ∷ []) q) ∙ e in
          let found = entry_found levels gives n path values run mine place under (node_of-node p n) fit deeper q c row path in
          let given = entry_gives levels gives n path values run mine place under (node_of-node p n) fit deeper q c row in
          subst (λ k. EntryGives rows table n path (Key values) (members_json table (Some n) (node_json levels table) k run)) length_is
          (record {
            found = found;
            room = is_room table good at rows whole path (Key values) q c e;
            gives = given;
          })

      run_entry : (run : List Row) → In run (runs_of (length (p ++ Node n ∷ [])) here) → IsEntry run
      run_entry run there = by (row_of rows path here part run there)
        where
          by : ((q : List Step) × (c : Cell) × (cell rows ((p ++ Node n ∷ []) ++ q) ≡ Some c) × (step_of (length (p ++ Node n ∷ [])) run ≡ slice_get q 0)) → IsEntry run
          by ([], c, known, is) = absurd (no_row c (ap (cell rows) (sym (append-nil path)) ∙ known))
          by (s ∷ q, c, known, is) =
              let fits : step_here table (at_node table n) s ≡ true = subst (λ x. step_here table x s ≡ true) (after-node table p n) (step_is_right table good at rows whole path s q c known) in
              let (values, same, fit) = follows_list table n s list fits in
              let step : step_of (length path) run ≡ Some (Key values) = is ∙ ap Some same in
              (values, step, entry_of run there values step fit q c (ap (λ t. cell rows (path ++ t ∷ q)) (sym same) ∙ known))

      are_entries : (some : List (List Row)) → ((run : List Row) → In run some → IsEntry run)
          → AreEntries rows table n (p ++ Node n ∷ []) (steps_of (length (p ++ Node n ∷ [])) some) (entries_json table n (node_json levels table) (length (p ++ Node n ∷ [])) some)
      are_entries [] each = tt
      are_entries (run ∷ some) each =
          let (values, step, entry) = each run (inl refl) in
          let rest = are_entries some (λ r there. each r (inr there)) in
          subst (λ o. AreEntries rows table n (p ++ Node n ∷ []) (onto_steps o (steps_of (length (p ++ Node n ∷ [])) some)) (entry_json table n (node_json levels table) (length (p ++ Node n ∷ [])) o run ++ entries_json table n (node_json levels table) (length (p ++ Node n ∷ [])) some))
          (sym step) (entry, rest)

      of_array-entries : (items : Items) → node_rows table n (p ++ Node n ∷ []) (array items) ≡ entries_rows table n (p ++ Node n ∷ []) [] items
      of_array-entries items =
          let leaf : is_kind is_leaf table n ≡ false = list-leaf table n list in
          let mine = entries_rows table n path [] items in
          let other = items_rows table n path [] items in
          let wrong : Reading = Err (WrongShape path) in
          ap (λ (b : Bool). if b then leaf_rows table n path (array items) else if is_kind is_list table n then mine else if is_kind is_leaf_list table n then other else wrong) leaf
          ∙ ap (λ (b : Bool). if b then mine else if is_kind is_leaf_list table n then other else wrong) list

      list_gives : is_kind is_leaf table n ≡ false → is_kind is_leaf_list table n ≡ false → Gives rows (p ++ Node n ∷ []) (node_rows table n (p ++ Node n ∷ []) (node_json (suc levels) table n (length (p ++ Node n ∷ [])) here))
      list_gives leaf leaf_list =
          let all = runs_of (length path) here in
          let are : AreRuns path here (runs_of (length path) here) = runs rows path here part in
          let values = entries_json table n (node_json levels table) (length path) all in
          let given = entries_give rows table n path (steps_of (length path) all) values [] (steps-Apart rows path all are.rise) (λ s before later. before) (are_entries all run_entry) in
          let json = node_json (suc levels) table n (length path) here in
          let read : node_rows table n path json ≡ Ok given.read =
          ap (node_rows table n path) (node_json-list levels table n (length path) here leaf leaf_list list) ∙ of_array-entries (items_of values) ∙ given.is in
          from_below rows path (node_rows table n path json) no_row (record {
            read = given.read;
            is = read;
            sound = given.sound;
            all = λ s q c e. let (run, there, step) = run_of rows path here part s q c e in given.all s q c (steps-In (length path) s run all there step) e;
          })

    -- ---- a container

    module _ (leaf : is_kind is_leaf table n ≡ false) (leaf_list : is_kind is_leaf_list table n ≡ false) (list : is_kind is_list table n ≡ false) (own : Own (p ++ Node n ∷ [])) where
      abbrev ms : Members
      ms = build table (Some n) (node_json levels table) (length path) no_members (runs_of (length path) here)

      place : after table (root table) (p ++ Node n ∷ []) ≡ at_object table (Some n)
      place = after-node table p n ∙ ap (λ b. record { node = Some n; wants_entry = b }) (no_entries table n leaf_list list)

      deeper : 32 < levels + (length (p ++ Node n ∷ []) + 1)
      deeper = omega arith

      members_read : GivesBelow rows (p ++ Node n ∷ []) (members_rows table (Some n) (p ++ Node n ∷ []) ms)
      members_read =
          object_gives table good at rows whole (node_json levels table) (Some n) path here part place below (never_none n path)
          (each_gives levels (Some n) path here part place below (never_none n path) gives deeper)

      of_object-members : node_rows table n (p ++ Node n ∷ []) (object ms) ≡ marked (is_kind is_presence table n) (p ++ Node n ∷ []) (members_rows table (Some n) (p ++ Node n ∷ []) ms)
      of_object-members =
          let mine = marked (is_kind is_presence table n) path (members_rows table (Some n) path ms) in
          let wrong : Reading = Err (WrongShape path) in
          ap (λ (b : Bool). if b then leaf_rows table n path (object ms) else if is_kind has_entries table n then wrong else mine) leaf
          ∙ ap (λ (b : Bool). if b then wrong else mine) (no_entries table n leaf_list list)

      with_own : (b : Bool) → is_kind is_presence table n ≡ b → Gives rows (p ++ Node n ∷ []) (marked b (p ++ Node n ∷ []) (members_rows table (Some n) (p ++ Node n ∷ []) ms))
      with_own true presence =
          let has : has_own_row table path ≡ true = or_left (has_mark table (last_step path)) (is_at_leaf table (last_step path)) (ap (has_mark table) (last_step-end p (Node n)) ∙ presence) in
          let (c, e) = own has in
          elim (row_at_node table good at rows whole p n c e) [
            | inl (_, is_mark) ↦ with_mark rows path (members_rows table (Some n) path ms) (e ∙ ap Some is_mark) members_read
            | inr (is, more) ↦ absurd (true≢false (sym is ∙ leaf))
          ]
      with_own false other = from_below rows path (members_rows table (Some n) path ms) (λ c e. by c e (row_at_node table good at rows whole p n c e)) members_read
        where
          by : (c : Cell) → cell rows (p ++ Node n ∷ []) ≡ Some c → ((is_kind is_presence table n ≡ true) × (c ≡ Mark)) ⊎ ((is_kind is_leaf table n ≡ true) × ((value : Value) × (c ≡ Leaf value))) → ⊥
          by c e (inl (presence, is_mark)) = true≢false (sym presence ∙ other)
          by c e (inr (is, more)) = true≢false (sym is ∙ leaf)

      container_gives : Gives rows (p ++ Node n ∷ []) (node_rows table n (p ++ Node n ∷ []) (node_json (suc levels) table n (length (p ++ Node n ∷ [])) here))
      container_gives =
          let json = node_json (suc levels) table n (length path) here in
          Gives-same rows path (node_rows table n path json) (marked (is_kind is_presence table n) path (members_rows table (Some n) path ms))
          (ap (node_rows table n path) (node_json-object levels table n (length path) here leaf leaf_list list) ∙ of_object-members) (with_own (is_kind is_presence table n) refl)

    -- ---- any node

    one_more_level : Own (p ++ Node n ∷ []) → Gives rows (p ++ Node n ∷ []) (node_rows table n (p ++ Node n ∷ []) (node_json (suc levels) table n (length (p ++ Node n ∷ [])) here))
    one_more_level own = elim (cases_Bool (is_kind is_leaf table n)) [
      | inl leaf ↦ leaf_gives table good at rows whole p n here part levels leaf own
      | inr other ↦ elim (cases_Bool (is_kind is_leaf_list table n)) [
        | inl leaf_list ↦ leaf_list_gives table good at rows whole p n here part leaf_list below levels
        | inr neither ↦ elim (cases_Bool (is_kind is_list table n)) [
          | inl list ↦ list_gives list other neither
          | inr none ↦ container_gives other neither none own
        ]
      ]
    ]

  pub level_gives : (levels : ℕ) → LevelGives levels
  level_gives zero p n here some room part below own = absurd (omega arith)
  level_gives (suc levels) p n here some room part below own = one_more_level levels (level_gives levels) p n here part below room own
