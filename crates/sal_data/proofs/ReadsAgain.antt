-- The JSON written for the rows at a path reads there as these rows.
use Rattle.std.proofs.Common.{◌≡◌, inl, inr, ℕ, ◌+◌, ◌<◌, Bool, true, false, List, [], ◌∷◌, ◌++◌, length, take, Option, Some, None, Ok, Err, refl, sym, ap, subst, ◌∙◌, arith, append-nil, if◌then◌else◌}
use Rattle.std.specs.Option.{option_map_or}
use Rattle.std.proofs.lemmas.Bool.{and_parts, or_left}
use Rattle.serde_json.specs.Data.{null, object}
use Rattle.sal_types.specs.declared.value.Value.{Value}
use Rattle.sal_types.specs.declared.value.Cell.{Cell}
use Rattle.sal_types.specs.declared.value.Cell.TheVariants.{Mark}
use Rattle.sal_types.specs.declared.value.Step.{Step}
use Rattle.sal_types.specs.declared.value.Step.TheVariants.{Node, Key, Item}
use Rattle.sal_types.specs.declared.row.Row.{Row}
use Rattle.sal_types.specs.Prefix.{is_prefix}
use Rattle.sal_types.specs.Reading.{◌>>=◌}
use Rattle.sal_types.specs.Tree.{cell, under}
use Rattle.sal_types.proofs.Prefixes.{IsPrefix-from_test, is_prefix-append}
use Rattle.sal_schema.specs.declared.table.SchemaTable.{SchemaTable}
use Rattle.sal_schema.specs.Fitting.{has_mark, is_at_leaf, has_own_row}
use Rattle.sal_schema.specs.Kinds.{is_list, is_leaf_list}
use Rattle.sal_schema.specs.Paths.{may_pick, are_of_nodes, fits_path, last_step, node_of}
use Rattle.sal_schema.specs.Table.{is_kind, keys_of}
use Rattle.sal_schema.specs.Valid.{IsTable}
use Rattle.sal_schema.specs.Values.{is_of_node}
use Rattle.sal_data.specs.declared.fault.DataFault.TheVariants.{WrongShape, KeyDiffers}
use Rattle.sal_data.specs.Laws.{IsWhole, ReadsAsWritten}
use Rattle.sal_data.specs.Read.{Reading, at_path, marked, key_step, item_step, object_rows, node_rows, before_last, if_asked, entry_rows, item_rows, rows_at, in_order, read_data}
use Rattle.sal_data.specs.Written.{members_json, scalar_json, any_json, node_json, json_at, write_data}
use Rattle.sal_data.proofs.Listed.{In}
use Rattle.sal_data.proofs.Fronts.{length-more}
use Rattle.sal_data.proofs.PathsFit.{less_one, last_step-end, node_of-key, node_of-item, ends, root, after, at_object, step-behind, after-end, after-node_of}
use Rattle.sal_data.proofs.Lawful.{lies_below, row_at_item, no_row_at_root, item_readable, own_at_top, no_object_child}
use Rattle.sal_data.proofs.Composed.{Gives, at_row, bind_is, from_below, only_row, Gives-same}
use Rattle.sal_data.proofs.Objects.{object_gives}
use Rattle.sal_data.proofs.Parts.{part_at}
use Rattle.sal_data.proofs.RunsApart.{same_step-itself}
use Rattle.sal_data.proofs.Lists.{level_gives, each_gives, entry_members, entry_found, entry_gives}
use Rattle.sal_data.proofs.PutInOrder.{in_order-is}
use Rattle.sal_data.proofs.KindFacts.{leaf_list-type}

-- ---- the end of a path

take-front : {X : Type 0} (xs ys : List X) → take (length xs) (xs ++ ys) ≡ xs
take-front [] ys = refl
take-front (x ∷ xs) ys = ap (λ zs. x ∷ zs) (take-front xs ys)

before_last-end : (p : List Step) (s : Step) → before_last (p ++ s ∷ []) ≡ p
before_last-end p s = ap (λ k. take k (p ++ s ∷ [])) (less_one (length (p ++ s ∷ [])) (length p) (length-more p s)) ∙ take-front p (s ∷ [])

-- the node whose entry a step picks
picked : (table : SchemaTable) (o : Option ℕ) (s : Step) → option_map_or (λ n. may_pick table n s) o false ≡ true → (n : ℕ) × (o ≡ Some n) × (may_pick table n s ≡ true)
picked table None s e = cc
picked table (Some n) s e = (n, refl, e)

asked-is : (path : List Step) (s : Step) (reading : Reading) → if_asked path s reading s ≡ reading
asked-is path s reading = ap (λ (b : Bool). if b then reading else Err (KeyDiffers path)) (same_step-itself s)

pub itself : (p : List Step) → is_prefix p p ≡ true
itself p = ap (is_prefix p) (sym (append-nil p)) ∙ is_prefix-append p []

module _ (table : SchemaTable) (good : IsTable table) (rows : List Row) where
  -- what is written at the path is read at the path
  abbrev Again : List Step → Reading
  Again path = rows_at table path (last_step path) (json_at table path (last_step path) (under rows path))

  at_top : IsWhole table [] rows → Gives rows [] (Again [])
  at_top whole =
      let here = under rows [] in
      let part = part_at rows [] whole.ascending in
      from_below rows [] (Again []) (λ c e. no_row_at_root table good [] rows whole c e)
      (object_gives table good [] rows whole (node_json 32 table) None [] here part refl refl (λ e. refl)
      (each_gives table good [] rows whole 32 None [] here part refl refl (λ e. refl) (level_gives table good [] rows whole 32) (omega arith)))

  module _ (p : List Step) where
    at_node : (n : ℕ) → IsWhole table (p ++ Node n ∷ []) rows → Gives rows (p ++ Node n ∷ []) (Again (p ++ Node n ∷ []))
    at_node n whole =
        let path = p ++ Node n ∷ [] in
        let here = under rows path in
        let same = length-more p (Node n) in
        let given = level_gives table good path rows whole 32 p n here (omega arith) (omega arith) (part_at rows path whole.ascending) (itself path) (own_at_top table good path rows whole) in
        Gives-same rows path (Again path) (node_rows table n path (node_json 32 table n (length path) here))
        (ap (λ o. rows_at table path o (json_at table path o here)) (last_step-end p (Node n))) given

    at_key : (values : List Value) → fits_path table (p ++ Key values ∷ []) ≡ true → IsWhole table (p ++ Key values ∷ []) rows → Gives rows (p ++ Key values ∷ []) (Again (p ++ Key values ∷ []))
    at_key values fits whole =
        let path = p ++ Key values ∷ [] in
        let here = under rows path in
        let part = part_at rows path whole.ascending in
        let step = (and_parts (after table (root table) p).wants_entry (option_map_or (λ n. may_pick table n (Key values)) (after table (root table) p).node false) (step-behind table p (Key values) [] fits)).1 in
        let (n, known, pick) = picked table (after table (root table) p).node (Key values) step in
        let (list, fit) = and_parts (is_kind is_list table n) (are_of_nodes table (keys_of table n) values) pick in
        let node : node_of p ≡ Some n = sym (after-node_of table p) ∙ known in
        let node_here : node_of path ≡ Some n = node_of-key p values ∙ node in
        let place : after table (root table) path ≡ at_object table (Some n) =
        after-end table (root table) p (Key values) ∙ ap (λ o. record { node = o; wants_entry = false }) known in
        let has : has_own_row table path ≡ true = or_left (has_mark table (last_step path)) (is_at_leaf table (last_step path)) (ap (has_mark table) (last_step-end p (Key values))) in
        let (c, own) = own_at_top table good path rows whole has in
        let row : cell rows (path ++ []) ≡ Some c = ap (cell rows) (append-nil path) ∙ own in
        let levels = level_gives table good path rows whole 32 in
        let room : 32 < 32 + (length path + 1) = omega arith in
        let found = entry_found table good path rows whole 32 levels n p values here part place (itself path) node fit room [] c row (before_last path) in
        let given = entry_gives table good path rows whole 32 levels n p values here part place (itself path) node fit room [] c row in
        let ms = entry_members table good path rows whole 32 levels n p values here part place (itself path) node fit room [] c row in
        let reading = marked true path (object_rows table (Some n) path (object ms)) in
        Gives-same rows path (Again path) reading
        (ap (λ o. rows_at table path o (json_at table path o here)) (last_step-end p (Key values))
        ∙ ap (λ o. option_map_or (entry_rows table path (Key values) (members_json table o (any_json table) (length path) here)) o (Err (WrongShape path))) node_here
        ∙ bind_is (key_step table n (before_last path) (object ms)) (if_asked path (Key values) reading) (Key values) found
        ∙ asked-is path (Key values) reading)
        given

    at_item : (value : Value) → fits_path table (p ++ Item value ∷ []) ≡ true → IsWhole table (p ++ Item value ∷ []) rows → Gives rows (p ++ Item value ∷ []) (Again (p ++ Item value ∷ []))
    at_item value fits whole =
        let path = p ++ Item value ∷ [] in
        let here = under rows path in
        let step = (and_parts (after table (root table) p).wants_entry (option_map_or (λ n. may_pick table n (Item value)) (after table (root table) p).node false) (step-behind table p (Item value) [] fits)).1 in
        let (n, known, pick) = picked table (after table (root table) p).node (Item value) step in
        let (list, fit) = and_parts (is_kind is_leaf_list table n) (is_of_node table n value) pick in
        let node : node_of p ≡ Some n = sym (after-node_of table p) ∙ known in
        let node_here : node_of path ≡ Some n = node_of-item p value ∙ node in
        let place : after table (root table) path ≡ at_object table (Some n) =
        after-end table (root table) p (Item value) ∙ ap (λ o. record { node = o; wants_entry = false }) known in
        let has : has_own_row table path ≡ true = or_left (has_mark table (last_step path)) (is_at_leaf table (last_step path)) (ap (has_mark table) (last_step-end p (Item value))) in
        let (c, own) = own_at_top table good path rows whole has in
        let mark : cell rows path ≡ Some Mark = own ∙ ap Some (row_at_item table good path rows whole p value c own) in
        let reads = item_readable table good path rows whole p n value c node own in
        let typed = leaf_list-type table n list in
        let alone = λ (s : Step). λ (q : List Step). λ (d : Cell). λ (there : cell rows (path ++ s ∷ q) ≡ Some d). no_object_child table good path rows whole path n s q d place typed there in
        let found : item_step table n (before_last path) (scalar_json table n value) ≡ Ok (Item value) = ap (λ r. at_path (before_last path) r >>= (λ value. Ok (Item value))) reads in
        let reading = marked true path (Ok []) in
        Gives-same rows path (Again path) (Ok (at_row rows path Mark ∷ []))
        (ap (λ o. rows_at table path o (json_at table path o here)) (last_step-end p (Item value))
        ∙ ap (λ o. option_map_or (item_rows table path (Item value) (option_map_or (λ n. scalar_json table n value) o null)) o (Err (WrongShape path))) node_here
        ∙ bind_is (item_step table n (before_last path) (scalar_json table n value)) (if_asked path (Item value) reading) (Item value) found
        ∙ asked-is path (Item value) reading)
        (only_row rows path Mark mark alone)

    at_end : (s : Step) → fits_path table (p ++ s ∷ []) ≡ true → IsWhole table (p ++ s ∷ []) rows → Gives rows (p ++ s ∷ []) (Again (p ++ s ∷ []))
    at_end (Node n) fits whole = at_node n whole
    at_end (Key values) fits whole = at_key values fits whole
    at_end (Item value) fits whole = at_item value fits whole

  again : (path : List Step) → fits_path table path ≡ true → IsWhole table path rows → Gives rows path (Again path)
  again path = elim (ends path) [
    | inl empty ↦ subst (λ r. fits_path table r ≡ true → IsWhole table r rows → Gives rows r (Again r)) (sym empty) (λ fits whole. at_top whole)
    | inr (p, s, is) ↦ subst (λ r. fits_path table r ≡ true → IsWhole table r rows → Gives rows r (Again r)) (sym is) (at_end p s)
  ]

  pub reads_again : (path : List Step) → fits_path table path ≡ true → IsWhole table path rows → read_data table path (write_data table path rows) ≡ Ok rows
  reads_again path fits whole =
      let given = again path fits whole in
      bind_is (Again path) (λ read. Ok (in_order read)) given.read given.is
      ∙ ap Ok (in_order-is rows given.read whole.ascending given.sound (λ r c e.
      let (q, is) = IsPrefix-from_test path r (lies_below table good path rows whole r c e) in
      subst (λ s. In (at_row rows s c) given.read) (sym is) (given.all q c (ap (cell rows) (sym is) ∙ e))))

pub reads_as_written : ReadsAsWritten
reads_as_written table good path fits rows whole = reads_again table good rows path fits whole
