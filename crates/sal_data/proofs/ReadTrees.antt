-- Rows that are read at a path are whole.
use Rattle.std.proofs.Common.{◌≡◌, inl, inr, ℕ, zero, suc, ◌≤◌, ◌<◌, Bool, true, false, cond, not, ◌&&◌, List, [], ◌∷◌, ◌++◌, length, Option, Some, None, Ok, refl, sym, ap, subst, ◌∙◌, arith}
use Rattle.std.specs.Prelude.{option_map, ◌||◌, nat_eq}
use Rattle.std.specs.List.{list_all, slice_get, All}
use Rattle.std.specs.Option.{option_map_or}
use Rattle.std.proofs.lemmas.Bool.{and_parts, and_from, or_left, true≢false}
use Rattle.std.proofs.lemmas.Bool.Decides.{nat_tests}
use Rattle.std.proofs.lemmas.List.Elements.{All-nil, All-cons}
use Rattle.serde_json.specs.Data.{Data, null, boolean, number, string, array, object, Items, no_items, item, Members, no_members, member}
use Rattle.serde_json.specs.Find.{get_member}
use Rattle.sal_types.specs.declared.value.Value.{Value}
use Rattle.sal_types.specs.declared.value.Cell.TheVariants.{Mark, Leaf}
use Rattle.sal_types.specs.declared.value.Step.{Step}
use Rattle.sal_types.specs.declared.value.Step.TheVariants.{Node, Key, Item}
use Rattle.sal_types.specs.declared.row.Row.{Row}
use Rattle.sal_schema.specs.declared.kind.Kind.{Kind}
use Rattle.sal_schema.specs.declared.kind.Kind.TheVariants.{List as ListKind}
use Rattle.sal_schema.specs.declared.table.NodeInfo.{NodeInfo}
use Rattle.sal_schema.specs.declared.table.SchemaTable.{SchemaTable}
use Rattle.sal_schema.specs.Fitting.{has_mark, has_value, is_at_leaf}
use Rattle.sal_schema.specs.Kinds.{is_leaf, is_leaf_list, is_list, is_presence, has_entries, is_data, is_choice_or_case, is_message}
use Rattle.sal_schema.specs.Paths.{are_of_nodes, fits_path, node_of}
use Rattle.sal_schema.specs.Table.{is_kind, keys_of, parent_of, data_node, data_parent, is_data_child, is_same, closest}
use Rattle.sal_schema.specs.Valid.{IsTable, has_its_keys, agree, is_empty, all_differ}
use Rattle.sal_schema.specs.Values.{is_of_node}
use Rattle.sal_schema.proofs.Facts.{slice_get_some, closest-Some}
use Rattle.sal_schema.proofs.Numbered.{all_from-at}
use Rattle.sal_schema.proofs.Children.{same-is}
use Rattle.sal_json.proofs.Chosen.{same_ok}
use Rattle.sal_data.specs.Laws.{IsReadable, IsJson, AreJson, HasJson, step_values}
use Rattle.sal_data.specs.Members.{member_name, member_node}
use Rattle.sal_data.specs.Read.{marked, node_scalar, leaf_rows, key_values, items_rows, node_rows, members_rows, entries_rows}
use Rattle.sal_data.proofs.Listed.{In, list_all-In}
use Rattle.sal_data.proofs.ObjectMembers.{Has, found, Has-found}
use Rattle.sal_data.proofs.MemberNames.{member_node-name}
use Rattle.sal_data.proofs.NamesMeant.{member_meant, same-itself}
use Rattle.sal_data.proofs.Fronts.{length-more}
use Rattle.sal_data.proofs.PathsFit.{last_step-end, node_of-node, node_of-key, node_of-item, root, step_here, after, next, at_object, after-node, after-end, fits-more}
use Rattle.sal_data.proofs.Lawful.{}
use Rattle.sal_data.proofs.Composed.{node_rows-leaf}
use Rattle.sal_data.proofs.RowsRead.{a_row, KeyRows, KeyRows-more, WholeIn, IsFit, ReadAt, ReadBelow, none_below, joined_rows, at_plain, at_one, at_marked}
use Rattle.sal_data.proofs.ReadParts.{bind_ok, followed_parts, member_parts, members_all, EntryParts, entry_parts, item_parts, value_fits, value_readable, leaf_parts, item_value, KeysRead, keys_parts, keys_fit, array_parts, object_parts, other_parts}
use Rattle.sal_data.proofs.KindFacts.{entries-leaf, entries-presence, leaf-data, leaf-presence, leaf_list-entries, list-entries}
use Rattle.sal_schema.proofs.Childless.{stays}

-- ---- kinds

list_stays : (k : Kind) → is_list k ≡ true → not (is_choice_or_case k) ≡ true
list_stays ListKind e = refl
list_stays k e = cc

same_key : (v w : List Value) → ◌≡◌ {A = Option Step} (Some (Key v)) (Some (Key w)) → v ≡ w
same_key v w e = cc

same_some : (n m : ℕ) → ◌≡◌ {A = Option ℕ} (Some n) (Some m) → n ≡ m
same_some n m e = cc

same_node_step : (n m : ℕ) → ◌≡◌ {A = Step} (Node n) (Node m) → n ≡ m
same_node_step n m e = cc

room_below : (path : List Step) (s : Step) → length path < 32 → length (path ++ s ∷ []) ≤ 32
room_below path s room = let same = length-more path s in omega arith

agree_right : (a b : Bool) → agree a b ≡ true → b ≡ true → a ≡ true
agree_right true b e f = refl
agree_right false true e f = e
agree_right false false e f = f

not_empty : (leaf : ℕ) (leafs : List ℕ) → In leaf leafs → not (is_empty leafs) ≡ true
not_empty leaf [] h = absurd h
not_empty leaf (x ∷ leafs) h = grind (arith, nat_tests)

some_number : (n l : ℕ) → n < l → (m : ℕ) × (l ≡ suc m)
some_number n zero h = absurd (omega arith)
some_number n (suc m) h = (m, refl)

module _ (table : SchemaTable) (good : IsTable table) where
  -- ---- the keys of a list are its children

  -- a node that is no choice or case is the data parent of its children
  own_data_node : (n : ℕ) (node : NodeInfo) → slice_get table.nodes n ≡ Some node → stays node.kind ≡ true → data_node table (Some n) ≡ Some n
  own_data_node n node at is =
      let (inside, here) = slice_get_some table.nodes n node at in
      let (m, more) = some_number n (length table.nodes) inside in
      let kind : is_kind stays table n ≡ true = ap (λ o. option_map_or stays (option_map (λ (node : NodeInfo). node.kind) o) false) at ∙ is in
      ap (λ l. closest stays table l (Some n)) more ∙ closest-Some stays table m n ∙ ap (λ b. cond b (Some n) (closest stays table m (parent_of table n))) kind

  key_child : (n leaf : ℕ) → In leaf (keys_of table n) → (is_kind is_leaf table leaf ≡ true) × (is_data_child table (Some n) leaf ≡ true)
  key_child n leaf there = by (slice_get table.nodes n) refl
    where
      by : (o : Option NodeInfo) → slice_get table.nodes n ≡ o → (is_kind is_leaf table leaf ≡ true) × (is_data_child table (Some n) leaf ≡ true)
      by None at = absurd (subst (λ o. In leaf (option_map_or (λ (node : NodeInfo). node.keys) o [])) at there)
      by (Some node) at =
          let mine : In leaf node.keys = subst (λ o. In leaf (option_map_or (λ (node : NodeInfo). node.keys) o [])) at there in
          let (inside, here) = slice_get_some table.nodes n node at in
          let right : has_its_keys table n node ≡ true = subst (λ (x : NodeInfo). has_its_keys table n x ≡ true) (sym here) (all_from-at (has_its_keys table) 0 table.nodes n n node good.keys inside (omega arith)) in
          let (front, leafs) = and_parts (agree (is_list node.kind) (not (is_empty node.keys)) && all_differ nat_eq node.keys) (list_all (λ leaf. is_kind is_leaf table leaf && is_same (parent_of table leaf) (Some n)) node.keys) right in
          let (agrees, differ) = and_parts (agree (is_list node.kind) (not (is_empty node.keys))) (all_differ nat_eq node.keys) front in
          let (is, above) = and_parts (is_kind is_leaf table leaf) (is_same (parent_of table leaf) (Some n)) (list_all-In (λ leaf. is_kind is_leaf table leaf && is_same (parent_of table leaf) (Some n)) leaf node.keys leafs mine) in
          let list = agree_right (is_list node.kind) (not (is_empty node.keys)) agrees (not_empty leaf node.keys mine) in
          let parent : data_parent table leaf ≡ Some n = ap (data_node table) (same-is (parent_of table leaf) (Some n) above) ∙ own_data_node n node at (list_stays node.kind list) in
          (is, and_from (is_kind is_data table leaf) (is_same (data_parent table leaf) (Some n)) (leaf-data table leaf is) (ap (λ o. is_same o (Some n)) parent ∙ same-itself table (Some n)))

  -- ---- rows at a node

  node_whole : (p : List Step) (n : ℕ) (read : List Row) → (is_kind is_presence table n ≡ true → In (a_row (p ++ Node n ∷ []) Mark) read) → WholeIn table read (p ++ Node n ∷ [])
  node_whole p n read marks = record {
    marks = λ marked. marks (ap (has_mark table) (sym (last_step-end p (Node n))) ∙ marked);
    keyed = λ values is m known. absurd (never values (sym (last_step-end p (Node n)) ∙ is));
  }
    where
      never : (values : List Value) → ◌≡◌ {A = Option Step} (Some (Node n)) (Some (Key values)) → ⊥
      never values e = cc

  leaf_at : (p : List Step) (n : ℕ) (json : Data) (read : List Row) → fits_path table (p ++ Node n ∷ []) ≡ true → length (p ++ Node n ∷ []) ≤ 32 → is_kind is_leaf table n ≡ true → IsJson json
      → leaf_rows table n (p ++ Node n ∷ []) json ≡ Ok read → ReadAt table (p ++ Node n ∷ []) read
  leaf_at p n json read fit short leaf is e =
      let path = p ++ Node n ∷ [] in
      let (value, scalar, same) = leaf_parts table n path json read e in
      let readable = value_readable table n json value good is scalar in
      subst (λ (r : List Row). ReadAt table path r) (sym same)
      (at_one table path (Leaf value) (record {
        fit = fit;
        short = short;
        is_cell = ap (λ s. has_value table s value) (last_step-end p (Node n)) ∙ and_from (is_kind is_leaf table n) (is_of_node table n value) leaf (value_fits table n json value scalar);
        readable = λ m known.
            subst (λ (vs : List Value). All (IsReadable table m) (value ∷ vs)) (ap step_values (sym (last_step-end p (Node n))))
            (All-cons (IsReadable table m) value [] (subst (λ k. IsReadable table k value) (same_some n m (sym (node_of-node p n) ∙ known)) readable) (All-nil (IsReadable table m)));
      }) (node_whole p n (a_row path (Leaf value) ∷ []) (λ presence. absurd (true≢false (sym presence ∙ leaf-presence table n leaf)))))

  -- a mark at the end of a path
  mark_fits : (p : List Step) (s : Step) → fits_path table (p ++ s ∷ []) ≡ true → length (p ++ s ∷ []) ≤ 32 → has_mark table (Some s) ≡ true
      → ((m : ℕ) → node_of (p ++ s ∷ []) ≡ Some m → All (IsReadable table m) (step_values (Some s))) → IsFit table (a_row (p ++ s ∷ []) Mark)
  mark_fits p s fit short marked readable = record {
    fit = fit;
    short = short;
    is_cell = ap (has_mark table) (last_step-end p s) ∙ marked;
    readable = λ m known. subst (λ (vs : List Value). All (IsReadable table m) vs) (ap step_values (sym (last_step-end p s))) (readable m known);
  }

  -- ---- members

  -- the step is to the node of one of the members
  abbrev pub Names : Option ℕ → List Step → Members → Step → Type 0
  Names parent path ms t = (name : List ℕ) × (d : Data) × (n : ℕ) × Has name d ms × (member_node table parent path name ≡ Ok n) × (t ≡ Node n)

  names_apart : (parent : Option ℕ) (path : List Step) (name : List ℕ) (json : Data) (ms : Members) (n : ℕ) → get_member name ms ≡ None → member_node table parent path name ≡ Ok n
      → (t : Step) → Names parent path ms t → (Node n ≡ t → ⊥) × Names parent path (member name json ms) t
  names_apart parent path name json ms n fresh known t (other, d, m, has, found_m, is) =
      (λ same. by (same_node_step n m (same ∙ is)), (other, d, m, inr has, found_m, is))
    where
      by : n ≡ m → ⊥
      by e =
          let (c1, own) = member_meant table good parent path name n known in
          let (c2, theirs) = member_meant table good parent path other m found_m in
          let same : other ≡ name = theirs ∙ ap (member_name table parent) (sym e) ∙ sym own in
          let (x, there) = found name d ms (subst (λ k. Has k d ms) same has) in
          let never : ◌≡◌ {A = Option Data} None (Some x) = sym fresh ∙ there in
          cc

  child_fits : (parent : Option ℕ) (path : List Step) (n : ℕ) → fits_path table path ≡ true → after table (root table) path ≡ at_object table parent → is_data_child table parent n ≡ true → fits_path table (path ++ Node n ∷ []) ≡ true
  child_fits parent path n fit place child = fits-more table path (Node n) fit (subst (λ spot. step_here table spot (Node n) ≡ true) (sym place) (by parent child))
    where
      by : (parent : Option ℕ) → is_data_child table parent n ≡ true → step_here table (at_object table parent) (Node n) ≡ true
      by None child = or_left (is_data_child table None n) (is_kind is_message table n) child
      by (Some p) child = child

  -- ---- a container

  object_at : (p : List Step) (n : ℕ) (ms : Members) (read : List Row) → fits_path table (p ++ Node n ∷ []) ≡ true → length (p ++ Node n ∷ []) ≤ 32 → is_kind is_leaf table n ≡ false
      → ((ys : List Row) → members_rows table (Some n) (p ++ Node n ∷ []) ms ≡ Ok ys → ReadBelow table (Names (Some n) (p ++ Node n ∷ []) ms) (p ++ Node n ∷ []) ys)
      → marked (is_kind is_presence table n) (p ++ Node n ∷ []) (members_rows table (Some n) (p ++ Node n ∷ []) ms) ≡ Ok read → ReadAt table (p ++ Node n ∷ []) read
  object_at p n ms read fit short leaf members e = by (is_kind is_presence table n) refl e
    where
      by : (b : Bool) → is_kind is_presence table n ≡ b → marked b (p ++ Node n ∷ []) (members_rows table (Some n) (p ++ Node n ∷ []) ms) ≡ Ok read → ReadAt table (p ++ Node n ∷ []) read
      by true presence e =
          let path = p ++ Node n ∷ [] in
          let (ys, is, same) = followed_parts (a_row path Mark ∷ []) (members_rows table (Some n) path ms) read e in
          subst (λ (r : List Row). ReadAt table path r) (sym same)
          (at_marked table (Names (Some n) path ms) path ys (members ys is) (mark_fits p (Node n) fit short presence (λ m known. All-nil (IsReadable table m))) (node_whole p n (a_row path Mark ∷ ys) (λ _. inl refl)))
      by false other e =
          let path = p ++ Node n ∷ [] in
          at_plain table (Names (Some n) path ms) path read (members read e) (node_whole p n read (λ presence. absurd (true≢false (sym presence ∙ other))))
          (λ has. absurd (never (sym (ap (λ s. has_mark table s || is_at_leaf table s) (last_step-end p (Node n))) ∙ has)))
        where
          never : (is_kind is_presence table n || is_kind is_leaf table n) ≡ true → ⊥
          never h = true≢false (sym h ∙ (λ i. other i || leaf i))

  -- ---- lists and leaf-lists

  entries_at : (p : List Step) (n : ℕ) (P : Step → Type 0) (read : List Row) → is_kind has_entries table n ≡ true → ReadBelow table P (p ++ Node n ∷ []) read → ReadAt table (p ++ Node n ∷ []) read
  entries_at p n P read entries below =
      let path = p ++ Node n ∷ [] in
      let other = entries-presence table n entries in
      let leaf = entries-leaf table n entries in
      at_plain table P path read below (node_whole p n read (λ presence. absurd (true≢false (sym presence ∙ other))))
      (λ has. absurd (true≢false (sym (sym (ap (λ s. has_mark table s || is_at_leaf table s) (last_step-end p (Node n))) ∙ has) ∙ (λ i. other i || leaf i))))

  -- steps that were not seen before
  abbrev pub Fresh : List Step → Step → Type 0
  Fresh seen t = In t seen → ⊥

  fresh_apart : (s : Step) (seen : List Step) (t : Step) → Fresh (s ∷ seen) t → (s ≡ t → ⊥) × Fresh seen t
  fresh_apart s seen t h = (λ e. h (inl (sym e)), λ there. h (inr there))

  pub item_at : (p : List Step) (n : ℕ) (json : Data) (value : Value) → node_of p ≡ Some n → fits_path table (p ++ Item value ∷ []) ≡ true → length (p ++ Item value ∷ []) ≤ 32 → IsJson json → node_scalar table n json ≡ Ok value
      → ReadAt table (p ++ Item value ∷ []) (a_row (p ++ Item value ∷ []) Mark ∷ [])
  item_at p n json value node fit short is scalar =
      let path = p ++ Item value ∷ [] in
      at_one table path Mark
      (mark_fits p (Item value) fit short refl (λ m known.
      All-cons (IsReadable table m) value [] (subst (λ k. IsReadable table k value) (same_some n m (sym (node_of-item p value ∙ node) ∙ known)) (value_readable table n json value good is scalar)) (All-nil (IsReadable table m))))
      (record {
        marks = λ _. inl refl;
        keyed = λ values e m known. absurd (never values (sym (last_step-end p (Item value)) ∙ e));
      })
    where
      never : (values : List Value) → ◌≡◌ {A = Option Step} (Some (Item value)) (Some (Key values)) → ⊥
      never values e = cc

  items_read : (items : Items) (p : List Step) (n : ℕ) (seen : List Step) (read : List Row) → fits_path table (p ++ Node n ∷ []) ≡ true → is_kind is_leaf_list table n ≡ true → AreJson items
      → items_rows table n (p ++ Node n ∷ []) seen items ≡ Ok read → ReadBelow table (Fresh seen) (p ++ Node n ∷ []) read
  items_read no_items p n seen read fit list is e = subst (λ (r : List Row). ReadBelow table (Fresh seen) (p ++ Node n ∷ []) r) (same_ok [] read e) (none_below table (Fresh seen) (p ++ Node n ∷ []))
  items_read (item json items) p n seen read fit list (is, others) e =
      let path = p ++ Node n ∷ [] in
      let parts = item_parts table n path seen json items read e in
      let (value, scalar, same) = item_value table n path json parts.step parts.found in
      let entries = leaf_list-entries table n list in
      let fits : fits_path table (path ++ Item value ∷ []) ≡ true =
      fits-more table path (Item value) fit (subst (λ spot. step_here table spot (Item value) ≡ true) (sym (after-node table p n))
      (and_from (is_kind has_entries table n) (is_kind is_leaf_list table n && is_of_node table n value) entries (and_from (is_kind is_leaf_list table n) (is_of_node table n value) list (value_fits table n json value scalar)))) in
      let front = item_at path n json value (node_of-node p n) fits (room_below path (Item value) parts.room) is scalar in
      let front2 = subst (λ s. ReadAt table (path ++ s ∷ []) (a_row (path ++ s ∷ []) Mark ∷ [])) (sym same) front in
      let back = items_read items p n (parts.step ∷ seen) parts.more fit list others parts.others in
      subst (λ (r : List Row). ReadBelow table (Fresh seen) path r) (sym parts.all)
      (joined_rows table (Fresh seen) (Fresh (parts.step ∷ seen)) path parts.step (a_row (path ++ parts.step ∷ []) Mark ∷ []) parts.more parts.fresh front2 back (fresh_apart parts.step seen))

  -- ---- an entry of a list

  key_rows : (n : ℕ) (path : List Step) (ms : Members) (ys : List Row) → members_rows table (Some n) path ms ≡ Ok ys → (leafs : List ℕ) (values : List Value) → ((leaf : ℕ) → In leaf leafs → In leaf (keys_of table n))
      → KeysRead table n ms leafs values → KeyRows table ys path leafs values
  key_rows n path ms ys e [] [] among h = tt
  key_rows n path ms ys e [] (value ∷ values) among h = tt
  key_rows n path ms ys e (leaf ∷ leafs) [] among h = tt
  key_rows n path ms ys e (leaf ∷ leafs) (value ∷ values) among ((json, there, scalar), others) =
      let name = member_name table (Some n) leaf in
      let (is, child) = key_child n leaf (among leaf (inl refl)) in
      let mine = members_all table (Some n) path ms ys name json e (Has-found name json ms there) in
      let same : mine.node ≡ leaf = same_ok mine.node leaf (sym mine.found ∙ member_node-name table good (Some n) leaf path child) in
      let read : leaf_rows table leaf (path ++ Node leaf ∷ []) json ≡ Ok mine.rows =
      sym (node_rows-leaf table leaf (path ++ Node leaf ∷ []) json is) ∙ sym (ap (λ m. node_rows table m (path ++ Node m ∷ []) json) same) ∙ mine.mine in
      let (v, scalar2, rows) = leaf_parts table leaf (path ++ Node leaf ∷ []) json mine.rows read in
      let same_value : value ≡ v = same_ok value v (sym scalar ∙ scalar2) in
      let row : In (a_row (path ++ Node leaf ∷ []) (Leaf value)) mine.rows =
      subst (λ (r : List Row). In (a_row (path ++ Node leaf ∷ []) (Leaf value)) r) (sym rows) (inl (ap (λ v. a_row (path ++ Node leaf ∷ []) (Leaf v)) same_value)) in
      (mine.among (a_row (path ++ Node leaf ∷ []) (Leaf value)) row, key_rows n path ms ys e leafs values (λ l h. among l (inr h)) others)

  pub entry_at : (p : List Step) (n : ℕ) (ms : Members) (values : List Value) (seen : List Step) (read : List Row) → node_of p ≡ Some n → fits_path table (p ++ Key values ∷ []) ≡ true → length (p ++ Key values ∷ []) ≤ 32
      → key_values table n seen ms (keys_of table n) ≡ Ok values
      → ((ys : List Row) → members_rows table (Some n) (p ++ Key values ∷ []) ms ≡ Ok ys → ReadBelow table (Names (Some n) (p ++ Key values ∷ []) ms) (p ++ Key values ∷ []) ys)
      → marked true (p ++ Key values ∷ []) (members_rows table (Some n) (p ++ Key values ∷ []) ms) ≡ Ok read → ReadAt table (p ++ Key values ∷ []) read
  entry_at p n ms values seen read node fit short keys members e =
      let path = p ++ Key values ∷ [] in
      let (ys, is, same) = followed_parts (a_row path Mark ∷ []) (members_rows table (Some n) path ms) read e in
      let leafs = key_rows n path ms ys is (keys_of table n) values (λ leaf h. h) (keys_parts table n seen ms (keys_of table n) values keys) in
      subst (λ (r : List Row). ReadAt table path r) (sym same)
      (at_marked table (Names (Some n) path ms) path ys (members ys is) (mark_fits p (Key values) fit short refl (λ m known. All-nil (IsReadable table m)))
      (record {
        marks = λ _. inl refl;
        keyed = λ vs last m known.
            let of_values : values ≡ vs = same_key values vs (sym (last_step-end p (Key values)) ∙ last) in
            let of_node : n ≡ m = same_some n m (sym (node_of-key p values ∙ node) ∙ known) in
            KeyRows-more table ys (a_row path Mark ∷ ys) (λ r h. inr h) path (keys_of table m) vs
            (subst (λ k. KeyRows table ys path (keys_of table k) vs) of_node (subst (λ (v : List Value). KeyRows table ys path (keys_of table n) v) of_values leafs));
      }))

  -- what was done for an entry that is an object
  record ObjectEntry (n : ℕ) (path seen : List Step) (ms : Members) (items : Items) (read : List Row) : Type 0 where
    values : List Value
    keys : key_values table n path ms (keys_of table n) ≡ Ok values
    room : length path < 32
    fresh : In (Key values) seen → ⊥
    rows : List Row
    mine : marked true (path ++ Key values ∷ []) (members_rows table (Some n) (path ++ Key values ∷ []) ms) ≡ Ok rows
    more : List Row
    others : entries_rows table n path (Key values ∷ seen) items ≡ Ok more
    all : read ≡ rows ++ more

  object_entry : (n : ℕ) (path seen : List Step) (ms : Members) (items : Items) (read : List Row) → EntryParts table n path seen (object ms) items read → ObjectEntry n path seen ms items read
  object_entry n path seen ms items read parts =
      let (values, keys, same) = bind_ok (key_values table n path ms (keys_of table n)) (λ values. Ok (Key values)) parts.step parts.found in
      let is : parts.step ≡ Key values = sym (same_ok (Key values) parts.step same) in
      record {
        values = values;
        keys = keys;
        room = parts.room;
        fresh = λ there. parts.fresh (subst (λ s. In s seen) (sym is) there);
        rows = parts.rows;
        mine = ap (λ s. marked true (path ++ s ∷ []) (members_rows table (Some n) (path ++ s ∷ []) ms)) (sym is) ∙ parts.mine;
        more = parts.more;
        others = ap (λ s. entries_rows table n path (s ∷ seen) items) (sym is) ∙ parts.others;
        all = parts.all;
      }

  key_fits : (p : List Step) (n : ℕ) (ms : Members) (values : List Value) (seen : List Step) → fits_path table (p ++ Node n ∷ []) ≡ true → is_kind is_list table n ≡ true → key_values table n seen ms (keys_of table n) ≡ Ok values
      → fits_path table ((p ++ Node n ∷ []) ++ Key values ∷ []) ≡ true
  key_fits p n ms values seen fit list keys =
      let path = p ++ Node n ∷ [] in
      let entries = list-entries table n list in
      fits-more table path (Key values) fit (subst (λ spot. step_here table spot (Key values) ≡ true) (sym (after-node table p n))
      (and_from (is_kind has_entries table n) (is_kind is_list table n && are_of_nodes table (keys_of table n) values) entries
      (and_from (is_kind is_list table n) (are_of_nodes table (keys_of table n) values) list (keys_fit table n ms (keys_of table n) values (keys_parts table n seen ms (keys_of table n) values keys)))))

  key_place : (p : List Step) (n : ℕ) (values : List Value) → after table (root table) ((p ++ Node n ∷ []) ++ Key values ∷ []) ≡ at_object table (Some n)
  key_place p n values = after-end table (root table) (p ++ Node n ∷ []) (Key values) ∙ ap (λ spot. next table spot (Key values)) (after-node table p n)

  -- ---- any value

  mutual
    pub node_read : (json : Data) (p : List Step) (n : ℕ) (read : List Row) → fits_path table (p ++ Node n ∷ []) ≡ true → length (p ++ Node n ∷ []) ≤ 32 → IsJson json → node_rows table n (p ++ Node n ∷ []) json ≡ Ok read
        → ReadAt table (p ++ Node n ∷ []) read
    node_read null p n read fit short is e = let (leaf, rows) = other_parts table n (p ++ Node n ∷ []) null read e in leaf_at p n null read fit short leaf is rows
    node_read (boolean b) p n read fit short is e = let (leaf, rows) = other_parts table n (p ++ Node n ∷ []) (boolean b) read e in leaf_at p n (boolean b) read fit short leaf is rows
    node_read (number x) p n read fit short is e = let (leaf, rows) = other_parts table n (p ++ Node n ∷ []) (number x) read e in leaf_at p n (number x) read fit short leaf is rows
    node_read (string t) p n read fit short is e = let (leaf, rows) = other_parts table n (p ++ Node n ∷ []) (string t) read e in leaf_at p n (string t) read fit short leaf is rows
    node_read (array items) p n read fit short is e =
        elim (array_parts table n (p ++ Node n ∷ []) (array items) (entries_rows table n (p ++ Node n ∷ []) [] items) (items_rows table n (p ++ Node n ∷ []) [] items) read e) [
          | inl (leaf, rows) ↦ leaf_at p n (array items) read fit short leaf is rows
          | inr other ↦ elim other [
            | inl (list, rows) ↦ entries_at p n (Fresh []) read (list-entries table n list) (entries_read items p n [] read fit list is rows)
            | inr (list, rows) ↦ entries_at p n (Fresh []) read (leaf_list-entries table n list) (items_read items p n [] read fit list is rows)
          ]
        ]
    node_read (object ms) p n read fit short is e =
        elim (object_parts table n (p ++ Node n ∷ []) (object ms) (members_rows table (Some n) (p ++ Node n ∷ []) ms) read e) [
          | inl (leaf, rows) ↦ leaf_at p n (object ms) read fit short leaf is rows
          | inr (leaf, (entries, rows)) ↦
              object_at p n ms read fit short leaf
              (λ ys e. members_read ms (Some n) (p ++ Node n ∷ []) ys fit (after-node table p n ∙ ap (λ b. record { node = Some n; wants_entry = b }) entries) is e) rows
        ]

    pub members_read : (ms : Members) (parent : Option ℕ) (path : List Step) (read : List Row) → fits_path table path ≡ true → after table (root table) path ≡ at_object table parent → HasJson ms → members_rows table parent path ms ≡ Ok read
        → ReadBelow table (Names parent path ms) path read
    members_read no_members parent path read fit place is e = subst (λ (r : List Row). ReadBelow table (Names parent path no_members) path r) (same_ok [] read e) (none_below table (Names parent path no_members) path)
    members_read (member name json ms) parent path read fit place (fresh, (is, others)) e =
        let parts = member_parts table parent path name json ms read e in
        let n = parts.node in
        let (child, own) = member_meant table good parent path name n parts.found in
        let front = node_read json path n parts.rows (child_fits parent path n fit place child) (room_below path (Node n) parts.room) is parts.mine in
        let back = members_read ms parent path parts.more fit place others parts.others in
        subst (λ (r : List Row). ReadBelow table (Names parent path (member name json ms)) path r) (sym parts.all)
        (joined_rows table (Names parent path (member name json ms)) (Names parent path ms) path (Node n) parts.rows parts.more (name, json, n, inl (refl, refl), parts.found, refl) front back
        (names_apart parent path name json ms n fresh parts.found))

    entries_read : (items : Items) (p : List Step) (n : ℕ) (seen : List Step) (read : List Row) → fits_path table (p ++ Node n ∷ []) ≡ true → is_kind is_list table n ≡ true → AreJson items
        → entries_rows table n (p ++ Node n ∷ []) seen items ≡ Ok read → ReadBelow table (Fresh seen) (p ++ Node n ∷ []) read
    entries_read no_items p n seen read fit list is e = subst (λ (r : List Row). ReadBelow table (Fresh seen) (p ++ Node n ∷ []) r) (same_ok [] read e) (none_below table (Fresh seen) (p ++ Node n ∷ []))
    entries_read (item null items) p n seen read fit list is e = cc
    entries_read (item (boolean b) items) p n seen read fit list is e = cc
    entries_read (item (number x) items) p n seen read fit list is e = cc
    entries_read (item (string t) items) p n seen read fit list is e = cc
    entries_read (item (array ds) items) p n seen read fit list is e = cc
    entries_read (item (object ms) items) p n seen read fit list (is, others) e =
        let path = p ++ Node n ∷ [] in
        let parts = object_entry n path seen ms items read (entry_parts table n path seen (object ms) items read e) in
        let below = path ++ Key parts.values ∷ [] in
        let fits = key_fits p n ms parts.values path fit list parts.keys in
        let front = entry_at path n ms parts.values path parts.rows (node_of-node p n) fits (room_below path (Key parts.values) parts.room) parts.keys
        (λ ys e. members_read ms (Some n) below ys fits (key_place p n parts.values) is e) parts.mine in
        let back = entries_read items p n (Key parts.values ∷ seen) parts.more fit list others parts.others in
        subst (λ (r : List Row). ReadBelow table (Fresh seen) path r) (sym parts.all)
        (joined_rows table (Fresh seen) (Fresh (Key parts.values ∷ seen)) path (Key parts.values) parts.rows parts.more parts.fresh front back (fresh_apart (Key parts.values) seen))
