-- What is written for a leaf, and for a leaf-list, reads as its rows.
use Rattle.std.proofs.Common.{◌≡◌, inl, inr, ℕ, zero, suc, ◌≤◌, Bool, true, false, List, [], ◌∷◌, ◌++◌, length, Option, Some, Ok, Err, refl, sym, ap, subst, ◌∙◌, arith, append_assoc, append-nil, if◌then◌else◌}
use Rattle.std.specs.List.{slice_get}
use Rattle.std.proofs.lemmas.Bool.{or_right, true≢false}
use Rattle.serde_json.specs.Data.{array, Items}
use Rattle.serde_json.specs.View.{items_of}
use Rattle.sal_types.specs.declared.value.Value.{Value}
use Rattle.sal_types.specs.declared.value.Cell.{Cell}
use Rattle.sal_types.specs.declared.value.Cell.TheVariants.{Leaf}
use Rattle.sal_types.specs.declared.value.Step.{Step}
use Rattle.sal_types.specs.declared.value.Step.TheVariants.{Node, Item}
use Rattle.sal_types.specs.declared.row.Row.{Row}
use Rattle.sal_types.specs.Prefix.{is_prefix}
use Rattle.sal_types.specs.Reading.{◌>>=◌}
use Rattle.sal_types.specs.Tree.{cell}
use Rattle.sal_types.proofs.Prefixes.{IsPrefix-from_test}
use Rattle.sal_schema.specs.declared.table.SchemaTable.{SchemaTable}
use Rattle.sal_schema.specs.Fitting.{has_mark, is_at_leaf, has_own_row}
use Rattle.sal_schema.specs.Kinds.{is_leaf, is_leaf_list, is_list}
use Rattle.sal_schema.specs.Paths.{last_step}
use Rattle.sal_schema.specs.Table.{is_kind}
use Rattle.sal_schema.specs.Valid.{IsTable}
use Rattle.sal_data.specs.declared.fault.DataFault.TheVariants.{WrongShape}
use Rattle.sal_data.specs.Laws.{IsWhole}
use Rattle.sal_data.specs.Read.{Reading, at_path, node_scalar, leaf_rows, items_rows, entries_rows, node_rows}
use Rattle.sal_data.specs.Written.{cell_json, scalar_json, leaf_json, item_json, items_json, node_json, step_of, runs_of}
use Rattle.sal_data.proofs.Listed.{In}
use Rattle.sal_data.proofs.Fronts.{longer_prefix}
use Rattle.sal_data.proofs.PathsFit.{last_step-end, node_of-node, at_node, step_here, after-node, follows_leaf_list}
use Rattle.sal_data.proofs.Lawful.{step_is_right, is_room, leaf_ends, item_ends, row_at_node, row_at_item, leaf_readable, item_readable, mark_at, HasOwn}
use Rattle.sal_data.proofs.Composed.{Gives, ItemGives, AreItems, items_give, at_row, node_rows-leaf, only_row, from_below, Gives-same}
use Rattle.sal_data.proofs.Parts.{IsPart, runs, row_of, run_of}
use Rattle.sal_data.proofs.RunsApart.{AreRuns}
use Rattle.sal_data.proofs.Steps.{onto_steps, steps_of, steps-In, steps-Apart}
use Rattle.sal_data.proofs.KindFacts.{leaf-presence, leaf_list-leaf, leaf_list-list, leaf_list-presence}

-- ---- what is written for a node, by its kind

module _ (levels : ℕ) (table : SchemaTable) (n k : ℕ) (here : List Row) where
  pub node_json-leaf : is_kind is_leaf table n ≡ true → node_json (suc levels) table n k here ≡ leaf_json table n here
  unfolding node_json
  node_json-leaf e = rw e refl

  pub node_json-leaf_list : is_kind is_leaf table n ≡ false → is_kind is_leaf_list table n ≡ true → node_json (suc levels) table n k here ≡ array (items_of (items_json table n k (runs_of k here)))
  unfolding node_json
  node_json-leaf_list e f = rw e (rw f refl)

some_cell : (c d : Cell) → ◌≡◌ {A = Option Cell} (Some c) (Some d) → c ≡ d
some_cell c d e = cc

leaf_value : (v w : Value) → Leaf v ≡ Leaf w → v ≡ w
leaf_value v w e = cc

module _ (table : SchemaTable) (good : IsTable table) (at : List Step) (rows : List Row) (whole : IsWhole table at rows) (p : List Step) (n : ℕ) (here : List Row) (part : IsPart rows (p ++ Node n ∷ []) here) where
  abbrev path : List Step
  path = p ++ Node n ∷ []

  -- ---- a leaf

  first_cell : (here : List Row) → IsPart rows (p ++ Node n ∷ []) here → (value : Value) → is_kind is_leaf table n ≡ true → cell rows (p ++ Node n ∷ []) ≡ Some (Leaf value) → leaf_json table n here ≡ scalar_json table n value
  first_cell [] part value leaf e = absurd (part.all [] (Leaf value) (ap (cell rows) (append-nil path) ∙ e))
  first_cell (x ∷ rest) part value leaf e =
      let (known, below) = part.from x (inl refl) in
      let (q, is) = IsPrefix-from_test path x.path below in
      by q (ap (cell rows) (sym is) ∙ known)
    where
      by : (q : List Step) → cell rows ((p ++ Node n ∷ []) ++ q) ≡ Some x.cell → cell_json table n x.cell ≡ scalar_json table n value
      by [] known = ap (cell_json table n) (some_cell x.cell (Leaf value) (sym known ∙ ap (cell rows) (append-nil path) ∙ e))
      by (s ∷ q) known = absurd (leaf_ends table good at rows whole p n s q x.cell leaf known)

  -- its value reads as it
  pub leaf_reads : (levels : ℕ) (value : Value) → 1 ≤ levels → cell rows (p ++ Node n ∷ []) ≡ Some (Leaf value) → node_scalar table n (node_json levels table n (length (p ++ Node n ∷ [])) here) ≡ Ok value
  leaf_reads zero value some e = absurd (omega arith)
  leaf_reads (suc levels) value some e = elim (row_at_node table good at rows whole p n (Leaf value) e) [
    | inl (presence, is_mark) ↦ cc
    | inr (leaf, more) ↦
        ap (node_scalar table n) (node_json-leaf levels table n (length path) here leaf ∙ first_cell here part value leaf e)
        ∙ leaf_readable table good at rows whole p n value e
  ]

  pub leaf_gives : (levels : ℕ) → is_kind is_leaf table n ≡ true → HasOwn table good at rows whole (p ++ Node n ∷ [])
      → Gives rows (p ++ Node n ∷ []) (node_rows table n (p ++ Node n ∷ []) (node_json (suc levels) table n (length (p ++ Node n ∷ [])) here))
  leaf_gives levels leaf own =
      let has : has_own_row table path ≡ true = or_right (has_mark table (last_step path)) (is_at_leaf table (last_step path)) (ap (is_at_leaf table) (last_step-end p (Node n)) ∙ leaf) in
      let (c, e) = own has in
      elim (row_at_node table good at rows whole p n c e) [
        | inl (presence, is_mark) ↦ absurd (true≢false (sym presence ∙ leaf-presence table n leaf))
        | inr (_, (value, is_value)) ↦ by value (e ∙ ap Some is_value)
      ]
    where
      by : (value : Value) → cell rows (p ++ Node n ∷ []) ≡ Some (Leaf value) → Gives rows (p ++ Node n ∷ []) (node_rows table n (p ++ Node n ∷ []) (node_json (suc levels) table n (length (p ++ Node n ∷ [])) here))
      by value e =
          let json = node_json (suc levels) table n (length path) here in
          let read : node_rows table n path json ≡ Ok (at_row rows path (Leaf value) ∷ []) =
          node_rows-leaf table n path json leaf ∙ ap (λ r. at_path path r >>= (λ value. Ok (at_row rows path (Leaf value) ∷ []))) (leaf_reads (suc levels) value (omega arith) e) in
          Gives-same rows path (node_rows table n path json) (Ok (at_row rows path (Leaf value) ∷ [])) read
          (only_row rows path (Leaf value) e (λ s q d there. leaf_ends table good at rows whole p n s q d leaf there))

  -- ---- a leaf-list

  module _ (list : is_kind is_leaf_list table n ≡ true) (below : is_prefix at (p ++ Node n ∷ []) ≡ true) where
    abbrev k : ℕ
    k = length path

    no_row : (c : Cell) → cell rows (p ++ Node n ∷ []) ≡ Some c → ⊥
    no_row c e = elim (row_at_node table good at rows whole p n c e) [
      | inl (presence, is_mark) ↦ true≢false (sym presence ∙ leaf_list-presence table n list)
      | inr (leaf, more) ↦ true≢false (sym leaf ∙ leaf_list-leaf table n list)
    ]

    item_gives : (s : Step) (q : List Step) (c : Cell) (value : Value) → s ≡ Item value → cell rows ((p ++ Node n ∷ []) ++ s ∷ q) ≡ Some c → ItemGives rows table n (p ++ Node n ∷ []) (Item value) (scalar_json table n value)
    item_gives s q c value is e =
        let e1 : cell rows (path ++ Item value ∷ q) ≡ Some c = ap (λ t. cell rows (path ++ t ∷ q)) (sym is) ∙ e in
        let e2 : cell rows ((path ++ Item value ∷ []) ++ q) ≡ Some c = ap (cell rows) (append_assoc path (Item value ∷ []) q) ∙ e1 in
        let under : is_prefix at (path ++ Item value ∷ []) ≡ true = longer_prefix at path (Item value) below in
        let (d, mark) = mark_at table good at rows whole (path ++ Item value ∷ []) q c under e2 (ap (has_mark table) (last_step-end path (Item value))) in
        record {
          found = ap (λ r. at_path path r >>= (λ value. Ok (Item value))) (item_readable table good at rows whole path n value d (node_of-node p n) mark);
          room = is_room table good at rows whole path s q c e;
          here = mark ∙ ap Some (row_at_item table good at rows whole path value d mark);
          alone = λ t r x there. item_ends table good at rows whole p n value t r x list there;
        }

    -- a run is that of an entry
    abbrev IsItem : List Row → Type 0
    IsItem run = (value : Value) × (step_of (length (p ++ Node n ∷ [])) run ≡ Some (Item value)) × ItemGives rows table n (p ++ Node n ∷ []) (Item value) (scalar_json table n value)

    run_item : (run : List Row) → In run (runs_of (length (p ++ Node n ∷ [])) here) → IsItem run
    run_item run there = by (row_of rows path here part run there)
      where
        by : ((q : List Step) × (c : Cell) × (cell rows ((p ++ Node n ∷ []) ++ q) ≡ Some c) × (step_of (length (p ++ Node n ∷ [])) run ≡ slice_get q 0)) → IsItem run
        by ([], c, known, is) = absurd (no_row c (ap (cell rows) (sym (append-nil path)) ∙ known))
        by (s ∷ q, c, known, is) =
            let fits : step_here table (at_node table n) s ≡ true = subst (λ x. step_here table x s ≡ true) (after-node table p n) (step_is_right table good at rows whole path s q c known) in
            let (value, same) = follows_leaf_list table n s list fits in
            (value, is ∙ ap Some same, item_gives s q c value same known)

    are_items : (some : List (List Row)) → ((run : List Row) → In run some → IsItem run) → AreItems rows table n (p ++ Node n ∷ []) (steps_of (length (p ++ Node n ∷ [])) some) (items_json table n (length (p ++ Node n ∷ [])) some)
    are_items [] each = tt
    are_items (run ∷ some) each =
        let (value, step, gives) = each run (inl refl) in
        let rest = are_items some (λ r there. each r (inr there)) in
        subst (λ o. AreItems rows table n (p ++ Node n ∷ []) (onto_steps o (steps_of (length (p ++ Node n ∷ [])) some)) (item_json table n o ++ items_json table n (length (p ++ Node n ∷ [])) some)) (sym step) (gives, rest)

    of_array-items : (items : Items) → node_rows table n (p ++ Node n ∷ []) (array items) ≡ items_rows table n (p ++ Node n ∷ []) [] items
    of_array-items items =
        let leaf : is_kind is_leaf table n ≡ false = leaf_list-leaf table n list in
        let other : is_kind is_list table n ≡ false = leaf_list-list table n list in
        let read = entries_rows table n path [] items in
        let mine = items_rows table n path [] items in
        let wrong : Reading = Err (WrongShape path) in
        ap (λ (b : Bool). if b then leaf_rows table n path (array items) else if is_kind is_list table n then read else if is_kind is_leaf_list table n then mine else wrong) leaf
        ∙ ap (λ (b : Bool). if b then read else if is_kind is_leaf_list table n then mine else wrong) other
        ∙ ap (λ (b : Bool). if b then mine else wrong) list

    pub leaf_list_gives : (levels : ℕ) → Gives rows (p ++ Node n ∷ []) (node_rows table n (p ++ Node n ∷ []) (node_json (suc levels) table n (length (p ++ Node n ∷ [])) here))
    leaf_list_gives levels =
        let leaf : is_kind is_leaf table n ≡ false = leaf_list-leaf table n list in
        let all = runs_of (length path) here in
        let are : AreRuns path here (runs_of (length path) here) = runs rows path here part in
        let given = items_give rows table n path (steps_of (length path) all) (items_json table n (length path) all) [] (steps-Apart rows path all are.rise) (λ s before later. before) (are_items all run_item) in
        let json = node_json (suc levels) table n (length path) here in
        let read : node_rows table n path json ≡ Ok given.read =
        ap (node_rows table n path) (node_json-leaf_list levels table n (length path) here leaf list) ∙ of_array-items (items_of (items_json table n (length path) all)) ∙ given.is in
        from_below rows path (node_rows table n path json) no_row (record {
          read = given.read;
          is = read;
          sound = given.sound;
          all = λ s q c e. let (run, there, step) = run_of rows path here part s q c e in given.all s q c (steps-In (length path) s run all there step) e;
        })
