-- What a reader did, from what it gave.
use Rattle.std.proofs.Common.{◌≡◌, ◌⊎◌, inl, inr, ℕ, ◌<◌, Bool, true, false, List, [], ◌∷◌, ◌++◌, length, Option, Some, Result, Ok, Err, if◌then◌else◌, refl, sym, ap, subst, ◌∙◌}
use Rattle.std.specs.Prelude.{nat_lt, option_and_then, ◌||◌}
use Rattle.std.specs.List.{list_any, slice_get}
use Rattle.std.specs.Option.{option_map_or}
use Rattle.std.proofs.lemmas.Bool.{ltb-true, and_from}
use Rattle.serde_json.specs.Data.{Data, null, boolean, number, string, array, object, Items, item, Members, no_members, member}
use Rattle.serde_json.specs.Find.{get_member}
use Rattle.sal_types.specs.declared.value.Value.{Value}
use Rattle.sal_types.specs.declared.value.Cell.TheVariants.{Mark, Leaf}
use Rattle.sal_types.specs.declared.value.Step.{Step}
use Rattle.sal_types.specs.declared.value.Step.TheVariants.{Node, Item}
use Rattle.sal_types.specs.declared.row.Row.{Row}
use Rattle.sal_types.specs.Reading.{◌>>=◌}
use Rattle.sal_schema.specs.declared.table.SchemaTable.{SchemaTable}
use Rattle.sal_schema.specs.Kinds.{is_leaf, is_leaf_list, is_list, is_presence, has_entries}
use Rattle.sal_schema.specs.Paths.{are_of_nodes}
use Rattle.sal_schema.specs.Table.{is_kind, type_of, module_of}
use Rattle.sal_schema.specs.Valid.{IsTable}
use Rattle.sal_schema.specs.Values.{is_of_node, is_of_type}
use Rattle.sal_json.specs.declared.fault.ScalarFault.{ScalarFault}
use Rattle.sal_json.specs.declared.fault.ScalarFault.TheVariants.{WrongKind}
use Rattle.sal_json.specs.Laws.{HasBytes}
use Rattle.sal_json.specs.Read.{scalar_of}
use Rattle.sal_json.specs.Written.{json_of}
use Rattle.sal_json.proofs.Chosen.{from_some, same_ok, chosen, otherwise}
use Rattle.sal_json.proofs.OfType.{json_of_type}
use Rattle.sal_json.proofs.ReadBack.{reads_back}
use Rattle.sal_data.specs.declared.fault.DataFault.TheVariants.{TooDeep, WrongShape, DoubleEntry, MissingKey}
use Rattle.sal_data.specs.Laws.{IsReadable, IsJson}
use Rattle.sal_data.specs.Members.{member_name, member_node}
use Rattle.sal_data.specs.Read.{Reading, followed, marked, longer, at_path, node_scalar, leaf_rows, key_value, key_values, key_step, item_step, one_more, items_rows, node_rows, object_rows, members_rows, entries_rows, of_array, of_object, of_other, same_step}
use Rattle.sal_data.specs.Written.{scalar_json}
use Rattle.sal_data.proofs.Listed.{In, In-front, In-back}
use Rattle.sal_data.proofs.ObjectMembers.{Has}
use Rattle.sal_data.proofs.RowsRead.{a_row}
use Rattle.sal_data.proofs.RunsApart.{same_step-itself}

-- ---- steps of a reading

pub bind_ok : {A B F : Type 0} (r : Result A F) (f : A → Result B F) (y : B) → (r >>= f) ≡ Ok y → (x : A) × (r ≡ Ok x) × (f x ≡ Ok y)
bind_ok (Ok x) f y e = (x, refl, e)
bind_ok (Err fault) f y e = cc

longer_parts : (path : List Step) (s : Step) (below : List Step) → longer path s ≡ Ok below → (length path < 32) × (below ≡ path ++ s ∷ [])
longer_parts path s below e =
    let (room, is) = chosen (nat_lt (length path) 32) (Ok (path ++ s ∷ [])) (TooDeep path) below e in
    (ltb-true (length path) 32 room, sym (same_ok (path ++ s ∷ []) below is))

any_In : (s : Step) (steps : List Step) → In s steps → list_any (same_step s) steps ≡ true
any_In s [] h = absurd h
any_In s (t ∷ steps) (inl e) = ap (λ b. b || list_any (same_step s) steps) (ap (same_step s) (sym e) ∙ same_step-itself s)
any_In s (t ∷ steps) (inr h) = elim (same_step s t) as (λ b. (b || list_any (same_step s) steps) ≡ true) [ true ↦ refl | false ↦ any_In s steps h ]

one_more_parts : (seen : List Step) (s : Step) (path now : List Step) → one_more seen s path ≡ Ok now → (In s seen → ⊥) × (now ≡ s ∷ seen)
one_more_parts seen s path now e =
    let (other, is) = otherwise (list_any (same_step s) seen) (DoubleEntry path) (Ok (s ∷ seen)) now e in
    (λ there. by (list_any (same_step s) seen) other (any_In s seen there), sym (same_ok (s ∷ seen) now is))
  where
    by : (b : Bool) → b ≡ false → b ≡ true → ⊥
    by true e f = cc
    by false e f = cc

pub followed_parts : (xs : List Row) (rest : Reading) (all : List Row) → followed xs rest ≡ Ok all → (ys : List Row) × (rest ≡ Ok ys) × (all ≡ xs ++ ys)
followed_parts xs rest all e = let (ys, is, same) = bind_ok rest (λ more. Ok (xs ++ more)) all e in (ys, is, sym (same_ok (xs ++ ys) all same))

at_path_ok : {X : Type 0} (path : List Step) (r : Result X ScalarFault) (x : X) → at_path path r ≡ Ok x → r ≡ Ok x
at_path_ok path (Ok y) x e = ap Ok (same_ok y x e)
at_path_ok path (Err fault) x e = cc

-- ---- members

pub record MemberParts (table : SchemaTable) (parent : Option ℕ) (path : List Step) (name : List ℕ) (json : Data) (ms : Members) (read : List Row) : Type 0 where
  pub node : ℕ
  pub found : member_node table parent path name ≡ Ok node
  pub room : length path < 32
  pub rows : List Row
  pub mine : node_rows table node (path ++ Node node ∷ []) json ≡ Ok rows
  pub more : List Row
  pub others : members_rows table parent path ms ≡ Ok more
  pub all : read ≡ rows ++ more

pub member_parts : (table : SchemaTable) (parent : Option ℕ) (path : List Step) (name : List ℕ) (json : Data) (ms : Members) (read : List Row) → members_rows table parent path (member name json ms) ≡ Ok read
    → MemberParts table parent path name json ms read
member_parts table parent path name json ms read e =
    let (n, found, e1) = bind_ok (member_node table parent path name) (λ n. longer path (Node n) >>= (λ below. node_rows table n below json >>= (λ rows. followed rows (members_rows table parent path ms)))) read e in
    let (below, deeper, e2) = bind_ok (longer path (Node n)) (λ below. node_rows table n below json >>= (λ rows. followed rows (members_rows table parent path ms))) read e1 in
    let (rows, mine, e3) = bind_ok (node_rows table n below json) (λ rows. followed rows (members_rows table parent path ms)) read e2 in
    let (room, is) = longer_parts path (Node n) below deeper in
    let (more, others, all) = followed_parts rows (members_rows table parent path ms) read e3 in
    record {
      node = n;
      found = found;
      room = room;
      rows = rows;
      mine = ap (λ below. node_rows table n below json) (sym is) ∙ mine;
      more = more;
      others = others;
      all = all;
    }

-- the rows of each member are among those that are read
pub record MemberRows (table : SchemaTable) (parent : Option ℕ) (path : List Step) (name : List ℕ) (json : Data) (read : List Row) : Type 0 where
  pub node : ℕ
  pub found : member_node table parent path name ≡ Ok node
  pub rows : List Row
  pub mine : node_rows table node (path ++ Node node ∷ []) json ≡ Ok rows
  pub among : (row : Row) → In row rows → In row read

pub members_all : (table : SchemaTable) (parent : Option ℕ) (path : List Step) (ms : Members) (read : List Row) (name : List ℕ) (json : Data) → members_rows table parent path ms ≡ Ok read → Has name json ms
    → MemberRows table parent path name json read
members_all table parent path no_members read name json e has = absurd has
members_all table parent path (member k d ms) read name json e has =
    let parts = member_parts table parent path k d ms read e in
    by parts (λ there. members_all table parent path ms parts.more name json parts.others there) has
  where
    by : (parts : MemberParts table parent path k d ms read) → (Has name json ms → MemberRows table parent path name json parts.more) → Has name json (member k d ms) → MemberRows table parent path name json read
    by parts later (inl (called, is)) = record {
      node = parts.node;
      found = ap (member_node table parent path) called ∙ parts.found;
      rows = parts.rows;
      mine = ap (node_rows table parts.node (path ++ Node parts.node ∷ [])) is ∙ parts.mine;
      among = λ row there. subst (λ (r : List Row). In row r) (sym parts.all) (In-front row parts.rows parts.more there);
    }
    by parts later (inr there) =
        let rest = later there in
        record {
          node = rest.node;
          found = rest.found;
          rows = rest.rows;
          mine = rest.mine;
          among = λ row here. subst (λ (r : List Row). In row r) (sym parts.all) (In-back row parts.rows parts.more (rest.among row here));
        }

-- ---- entries

pub record EntryParts (table : SchemaTable) (n : ℕ) (path seen : List Step) (json : Data) (items : Items) (read : List Row) : Type 0 where
  pub step : Step
  pub found : key_step table n path json ≡ Ok step
  pub room : length path < 32
  pub fresh : In step seen → ⊥
  pub rows : List Row
  pub mine : marked true (path ++ step ∷ []) (object_rows table (Some n) (path ++ step ∷ []) json) ≡ Ok rows
  pub more : List Row
  pub others : entries_rows table n path (step ∷ seen) items ≡ Ok more
  pub all : read ≡ rows ++ more

pub entry_parts : (table : SchemaTable) (n : ℕ) (path seen : List Step) (json : Data) (items : Items) (read : List Row) → entries_rows table n path seen (item json items) ≡ Ok read → EntryParts table n path seen json items read
entry_parts table n path seen json items read e =
    let (s, found, e1) = bind_ok (key_step table n path json) (λ step. longer path step >>= (λ below. one_more seen step below >>= (λ now. marked true below (object_rows table (Some n) below json) >>= (λ rows. followed rows (entries_rows table n path now items))))) read e in
    let (below, deeper, e2) = bind_ok (longer path s) (λ below. one_more seen s below >>= (λ now. marked true below (object_rows table (Some n) below json) >>= (λ rows. followed rows (entries_rows table n path now items)))) read e1 in
    let (now, another, e3) = bind_ok (one_more seen s below) (λ now. marked true below (object_rows table (Some n) below json) >>= (λ rows. followed rows (entries_rows table n path now items))) read e2 in
    let (rows, mine, e4) = bind_ok (marked true below (object_rows table (Some n) below json)) (λ rows. followed rows (entries_rows table n path now items)) read e3 in
    let (room, is) = longer_parts path s below deeper in
    let (fresh, known) = one_more_parts seen s below now another in
    let (more, others, all) = followed_parts rows (entries_rows table n path now items) read e4 in
    record {
      step = s;
      found = found;
      room = room;
      fresh = fresh;
      rows = rows;
      mine = ap (λ below. marked true below (object_rows table (Some n) below json)) (sym is) ∙ mine;
      more = more;
      others = ap (λ now. entries_rows table n path now items) (sym known) ∙ others;
      all = all;
    }

pub record ItemParts (table : SchemaTable) (n : ℕ) (path seen : List Step) (json : Data) (items : Items) (read : List Row) : Type 0 where
  pub step : Step
  pub found : item_step table n path json ≡ Ok step
  pub room : length path < 32
  pub fresh : In step seen → ⊥
  pub more : List Row
  pub others : items_rows table n path (step ∷ seen) items ≡ Ok more
  pub all : read ≡ a_row (path ++ step ∷ []) Mark ∷ more

pub item_parts : (table : SchemaTable) (n : ℕ) (path seen : List Step) (json : Data) (items : Items) (read : List Row) → items_rows table n path seen (item json items) ≡ Ok read → ItemParts table n path seen json items read
item_parts table n path seen json items read e =
    let (s, found, e1) = bind_ok (item_step table n path json) (λ step. longer path step >>= (λ below. one_more seen step below >>= (λ now. marked true below (items_rows table n path now items)))) read e in
    let (below, deeper, e2) = bind_ok (longer path s) (λ below. one_more seen s below >>= (λ now. marked true below (items_rows table n path now items))) read e1 in
    let (now, another, e3) = bind_ok (one_more seen s below) (λ now. marked true below (items_rows table n path now items)) read e2 in
    let (room, is) = longer_parts path s below deeper in
    let (fresh, known) = one_more_parts seen s below now another in
    let (more, others, all) = followed_parts (a_row below Mark ∷ []) (items_rows table n path now items) read e3 in
    record {
      step = s;
      found = found;
      room = room;
      fresh = fresh;
      more = more;
      others = ap (λ now. items_rows table n path now items) (sym known) ∙ others;
      all = all ∙ ap (λ below. a_row below Mark ∷ more) is;
    }

-- ---- values

pub has_bytes : (json : Data) → IsJson json → HasBytes json
has_bytes null h = λ t e. cc
has_bytes (boolean b) h = λ t e. cc
has_bytes (number x) h = λ t e. cc
has_bytes (string s) h = h
has_bytes (array items) h = λ t e. cc
has_bytes (object ms) h = λ t e. cc

module _ (table : SchemaTable) where
  pub value_fits : (n : ℕ) (json : Data) (value : Value) → node_scalar table n json ≡ Ok value → is_of_node table n value ≡ true
  value_fits n json value e =
      let (ty, there, e1) = from_some (λ ty. option_map_or (λ m. scalar_of table ty m json) (module_of table n) (Err WrongKind)) (type_of table n) WrongKind value e in
      let (m, known, read) = from_some (λ m. scalar_of table ty m json) (module_of table n) WrongKind value e1 in
      ap (λ o. option_map_or (λ type. is_of_type table type value) (option_and_then (slice_get table.types) o) false) there ∙ json_of_type table ty m json value read

  pub value_readable : (n : ℕ) (json : Data) (value : Value) → IsTable table → IsJson json → node_scalar table n json ≡ Ok value → IsReadable table n value
  unfolding scalar_json
  value_readable n json value good is e =
      let (ty, there, e1) = from_some (λ ty. option_map_or (λ m. scalar_of table ty m json) (module_of table n) (Err WrongKind)) (type_of table n) WrongKind value e in
      let (m, known, read) = from_some (λ m. scalar_of table ty m json) (module_of table n) WrongKind value e1 in
      let again = reads_back table good ty m json value (has_bytes json is) read in
      (λ i. option_map_or (λ ty. option_map_or (λ m. scalar_of table ty m (scalar_json table n value)) (known i) (Err WrongKind)) (there i) (Err WrongKind))
      ∙ ap (scalar_of table ty m) (λ i. option_map_or (λ ty. option_map_or (λ m. json_of table ty m value) (known i) null) (there i) null)
      ∙ again

  pub leaf_parts : (n : ℕ) (path : List Step) (json : Data) (read : List Row) → leaf_rows table n path json ≡ Ok read → (value : Value) × (node_scalar table n json ≡ Ok value) × (read ≡ a_row path (Leaf value) ∷ [])
  leaf_parts n path json read e =
      let (value, is, same) = bind_ok (at_path path (node_scalar table n json)) (λ value. Ok (a_row path (Leaf value) ∷ [])) read e in
      (value, at_path_ok path (node_scalar table n json) value is, sym (same_ok (a_row path (Leaf value) ∷ []) read same))

  pub item_value : (n : ℕ) (path : List Step) (json : Data) (s : Step) → item_step table n path json ≡ Ok s → (value : Value) × (node_scalar table n json ≡ Ok value) × (s ≡ Item value)
  item_value n path json s e =
      let (value, is, same) = bind_ok (at_path path (node_scalar table n json)) (λ value. Ok (Item value)) s e in
      (value, at_path_ok path (node_scalar table n json) value is, sym (same_ok (Item value) s same))

  -- ---- keys

  -- the members that the values of the keys were read from
  abbrev pub KeysRead : ℕ → Members → List ℕ → List Value → Type 0
  KeysRead n ms [] [] = Unit {0}
  KeysRead n ms [] (value ∷ values) = ⊥
  KeysRead n ms (leaf ∷ leafs) [] = ⊥
  KeysRead n ms (leaf ∷ leafs) (value ∷ values) = ((json : Data) × (get_member (member_name table (Some n) leaf) ms ≡ Some json) × (node_scalar table leaf json ≡ Ok value)) × KeysRead n ms leafs values

  pub keys_parts : (n : ℕ) (path : List Step) (ms : Members) (leafs : List ℕ) (values : List Value) → key_values table n path ms leafs ≡ Ok values → KeysRead n ms leafs values
  keys_parts n path ms [] [] e = tt
  keys_parts n path ms [] (value ∷ values) e = cc
  keys_parts n path ms (leaf ∷ leafs) values e =
      let (value, one, e1) = bind_ok (key_value table n path ms leaf) (λ value. (key_values table n path ms leafs >>= λ values. Ok (value ∷ values))) values e in
      let (rest, others, same) = bind_ok (key_values table n path ms leafs) (λ values. Ok (value ∷ values)) values e1 in
      let (json, there, read) = from_some (λ json. at_path path (node_scalar table leaf json)) (get_member (member_name table (Some n) leaf) ms) (MissingKey path) value one in
      let all : value ∷ rest ≡ values = same_ok (value ∷ rest) values same in
      subst (λ (vs : List Value). KeysRead n ms (leaf ∷ leafs) vs) all ((json, there, at_path_ok path (node_scalar table leaf json) value read), keys_parts n path ms leafs rest others)

  pub keys_fit : (n : ℕ) (ms : Members) (leafs : List ℕ) (values : List Value) → KeysRead n ms leafs values → are_of_nodes table leafs values ≡ true
  keys_fit n ms [] [] h = refl
  keys_fit n ms [] (value ∷ values) h = absurd h
  keys_fit n ms (leaf ∷ leafs) [] h = absurd h
  keys_fit n ms (leaf ∷ leafs) (value ∷ values) ((json, there, read), rest) =
      and_from (is_of_node table leaf value) (are_of_nodes table leafs values) (value_fits leaf json value read) (keys_fit n ms leafs values rest)

  -- ---- trees

  pub array_parts : (n : ℕ) (path : List Step) (json : Data) (entries items : Reading) (read : List Row) → of_array table n path json entries items ≡ Ok read
      → ((is_kind is_leaf table n ≡ true) × (leaf_rows table n path json ≡ Ok read)) ⊎ (((is_kind is_list table n ≡ true) × (entries ≡ Ok read)) ⊎ ((is_kind is_leaf_list table n ≡ true) × (items ≡ Ok read)))
  array_parts n path json entries items read e = by (is_kind is_leaf table n) refl (is_kind is_list table n) refl (is_kind is_leaf_list table n) refl e
    where
      by : (a : Bool) → is_kind is_leaf table n ≡ a → (b : Bool) → is_kind is_list table n ≡ b → (c : Bool) → is_kind is_leaf_list table n ≡ c
          → (if a then leaf_rows table n path json else if b then entries else if c then items else Err (WrongShape path)) ≡ Ok read
          → ((is_kind is_leaf table n ≡ true) × (leaf_rows table n path json ≡ Ok read)) ⊎ (((is_kind is_list table n ≡ true) × (entries ≡ Ok read)) ⊎ ((is_kind is_leaf_list table n ≡ true) × (items ≡ Ok read)))
      by true ea b eb c ec e = inl (ea, e)
      by false ea true eb c ec e = inr (inl (eb, e))
      by false ea false eb true ec e = inr (inr (ec, e))
      by false ea false eb false ec e = cc

  pub object_parts : (n : ℕ) (path : List Step) (json : Data) (members : Reading) (read : List Row) → of_object table n path json members ≡ Ok read
      → ((is_kind is_leaf table n ≡ true) × (leaf_rows table n path json ≡ Ok read))
      ⊎ ((is_kind is_leaf table n ≡ false) × ((is_kind has_entries table n ≡ false) × (marked (is_kind is_presence table n) path members ≡ Ok read)))
  object_parts n path json members read e = by (is_kind is_leaf table n) refl (is_kind has_entries table n) refl e
    where
      by : (a : Bool) → is_kind is_leaf table n ≡ a → (b : Bool) → is_kind has_entries table n ≡ b
          → (if a then leaf_rows table n path json else if b then Err (WrongShape path) else marked (is_kind is_presence table n) path members) ≡ Ok read
          → ((is_kind is_leaf table n ≡ true) × (leaf_rows table n path json ≡ Ok read))
          ⊎ ((is_kind is_leaf table n ≡ false) × ((is_kind has_entries table n ≡ false) × (marked (is_kind is_presence table n) path members ≡ Ok read)))
      by true ea b eb e = inl (ea, e)
      by false ea true eb e = cc
      by false ea false eb e = inr (ea, (eb, e))

  pub other_parts : (n : ℕ) (path : List Step) (json : Data) (read : List Row) → of_other table n path json ≡ Ok read → (is_kind is_leaf table n ≡ true) × (leaf_rows table n path json ≡ Ok read)
  other_parts n path json read e = chosen (is_kind is_leaf table n) (leaf_rows table n path json) (WrongShape path) read e
