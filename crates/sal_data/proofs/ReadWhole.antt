-- The rows that are read at a path, in order, are whole.
use Rattle.std.proofs.Common.{◌≡◌, ◌⊎◌, inl, inr, ℕ, ◌≤◌, Bool, true, false, not, ◌&&◌, List, [], ◌∷◌, ◌++◌, length, Option, Some, None, Ok, Err, refl, sym, ap, subst, ◌∙◌, append_assoc, append-nil}
use Rattle.std.specs.Prelude.{◌||◌, is_some}
use Rattle.std.specs.Option.{option_map_or}
use Rattle.std.specs.Ordering.{eq_by_cmp, is_eq}
use Rattle.std.specs.Cmp.{tied_itself}
use Rattle.std.proofs.lemmas.Bool.{cases_Bool, and_parts, and_from}
use Rattle.serde_json.specs.Data.{Data, null, boolean, number, string, array, object, Members}
use Rattle.sal_types.specs.declared.value.Value.{Value}
use Rattle.sal_types.specs.declared.value.Cell.{Cell}
use Rattle.sal_types.specs.declared.value.Cell.TheVariants.{Mark, Leaf}
use Rattle.sal_types.specs.declared.value.Step.{Step}
use Rattle.sal_types.specs.declared.value.Step.TheVariants.{Node, Key, Item}
use Rattle.sal_types.specs.declared.row.Row.{Row}
use Rattle.sal_types.specs.contracts.value.CellOrd.TheImpl.Laws as cell_laws
use Rattle.sal_types.specs.Order.{cell_cmp}
use Rattle.sal_types.specs.Prefix.{is_prefix}
use Rattle.sal_types.specs.Tree.{cell}
use Rattle.sal_types.proofs.Prefixes.{IsPrefix-from_test, is_prefix-append}
use Rattle.sal_schema.specs.declared.table.SchemaTable.{SchemaTable}
use Rattle.sal_schema.specs.Fitting.{has_mark, has_own_row, cell_fits, prefixes, has_cell, has_key_leafs, has_keys, is_whole_at, is_whole_above, is_in_message, is_root, row_fits, fits}
use Rattle.sal_schema.specs.Kinds.{is_data}
use Rattle.sal_schema.specs.Paths.{fits_path, last_step, node_of}
use Rattle.sal_schema.specs.Table.{is_kind, keys_of, is_same, data_parent}
use Rattle.sal_schema.specs.Valid.{IsTable}
use Rattle.sal_json.proofs.Chosen.{from_some, same_ok, chosen}
use Rattle.sal_data.specs.declared.fault.DataFault.TheVariants.{WrongShape, KeyDiffers}
use Rattle.sal_data.specs.Laws.{IsWhole, HasReadable, IsJson, ReadsWhole}
use Rattle.sal_data.specs.Read.{Reading, marked, key_values, key_step, item_step, object_rows, before_last, if_asked, same_step, entry_rows, item_rows, rows_at, in_order}
use Rattle.sal_data.proofs.Listed.{In, In-map_from, list_all-from, All-from}
use Rattle.sal_data.proofs.Fronts.{rises, cell-In}
use Rattle.sal_data.proofs.PathsFit.{last_step-end, node_of-key, node_of-item, ends, root, after, at_object, after-end, after-node_of}
use Rattle.sal_data.proofs.Lawful.{}
use Rattle.sal_data.proofs.NamesMeant.{member_meant}
use Rattle.sal_data.proofs.RunsApart.{step_is}
use Rattle.sal_data.proofs.PutInOrder.{IsAscending-in_order, in_order-from, in_order-at}
use Rattle.sal_data.proofs.RowsRead.{a_row, KeyRows, WholeIn, AtPath, BelowPath, ReadAt, at_plain}
use Rattle.sal_data.proofs.ReadParts.{bind_ok, followed_parts, item_value}
use Rattle.sal_data.proofs.ReadTrees.{Names, node_read, members_read, entry_at, item_at}
use Rattle.sal_data.proofs.KindFacts.{data-message}

-- ---- prefixes

same_rest : (p x y : List Step) → p ++ x ≡ p ++ y → x ≡ y
same_rest [] x y e = e
same_rest (s ∷ p) x y e = let rest : p ++ x ≡ p ++ y = cc in same_rest p x y rest

front-of : (q p : List Step) → In q (prefixes p) → (v : List Step) × (p ≡ q ++ v)
front-of q [] (inl e) = ([], sym e ∙ sym (append-nil q))
front-of q [] (inr none) = absurd none
front-of q (s ∷ p) (inl e) = (s ∷ p, ap (λ r. r ++ s ∷ p) (sym e))
front-of q (s ∷ p) (inr there) =
    let (r, among, is) = In-map_from (λ r. s ∷ r) q (prefixes p) there in
    let (v, goes_on) = front-of r p among in
    (v, ap (λ x. s ∷ x) goes_on ∙ ap (λ x. x ++ v) (sym is))

same_cell : (c : Cell) → eq_by_cmp cell_cmp c c ≡ true
same_cell c = ap is_eq (tied_itself cell_laws.total-law c)

no_root : (p : List Step) (s : Step) → is_root (p ++ s ∷ []) ≡ false
no_root [] s = refl
no_root (t ∷ p) s = refl

asked_parts : (path : List Step) (asked s : Step) (reading : Reading) (read : List Row) → if_asked path asked reading s ≡ Ok read → (s ≡ asked) × (reading ≡ Ok read)
asked_parts path asked s reading read e =
    let (same, is) = chosen (same_step s asked) reading (KeyDiffers path) read e in
    (step_is s asked same, is)

object_is : (table : SchemaTable) (n : ℕ) (seen : List Step) (json : Data) (s : Step) → key_step table n seen json ≡ Ok s → (ms : Members) × (json ≡ object ms)
object_is table n seen null s e = cc
object_is table n seen (boolean b) s e = cc
object_is table n seen (number x) s e = cc
object_is table n seen (string t) s e = cc
object_is table n seen (array items) s e = cc
object_is table n seen (object ms) s e = (ms, refl)

module _ (table : SchemaTable) (good : IsTable table) where
  -- ---- the rows read, in order

  module _ (path : List Step) (read : List Row) (given : ReadAt table path read) where
    abbrev tree : List Row
    tree = in_order read

    among : (row : Row) → In row (in_order read) → In row read
    among row there = in_order-from read row.path row.cell (cell-In tree row (rises tree (IsAscending-in_order read)) there)

    at : (p : List Step) (c : Cell) → In (a_row p c) read → cell (in_order read) p ≡ Some c
    at p c there = in_order-at read (a_row p c) given.alike there

    key_leafs : (q : List Step) (leafs : List ℕ) (values : List Value) → KeyRows table read q leafs values → has_key_leafs (in_order read) q leafs values ≡ true
    key_leafs q [] [] h = refl
    key_leafs q [] (value ∷ values) h = refl
    key_leafs q (leaf ∷ leafs) [] h = refl
    key_leafs q (leaf ∷ leafs) (value ∷ values) (here, rest) =
        and_from (has_cell tree (q ++ Node leaf ∷ []) (Leaf value)) (has_key_leafs tree q leafs values)
        (ap (λ o. option_map_or (λ d. eq_by_cmp cell_cmp d (Leaf value)) o false) (at (q ++ Node leaf ∷ []) (Leaf value) here) ∙ same_cell (Leaf value))
        (key_leafs q leafs values rest)

    keys_there : (q : List Step) → WholeIn table read q → has_keys table (in_order read) q (last_step q) ≡ true
    keys_there q h = by (last_step q) refl (node_of q) refl
      where
        none : (values : List Value) → has_key_leafs (in_order read) q [] values ≡ true
        none [] = refl
        none (value ∷ values) = refl

        by : (o : Option Step) → last_step q ≡ o → (n : Option ℕ) → node_of q ≡ n → has_keys table (in_order read) q o ≡ true
        by None is n node = refl
        by (Some (Node m)) is n node = refl
        by (Some (Item value)) is n node = refl
        by (Some (Key values)) is None node = ap (λ o. has_key_leafs tree q (option_map_or (keys_of table) o []) values) node ∙ none values
        by (Some (Key values)) is (Some n) node = ap (λ o. has_key_leafs tree q (option_map_or (keys_of table) o []) values) node ∙ key_leafs q (keys_of table n) values (h.keyed values is n node)

    whole_test : (q : List Step) → WholeIn table read q → is_whole_at table (in_order read) q ≡ true
    whole_test q h =
        and_from (not (has_mark table (last_step q)) || is_some (cell tree q)) (has_keys table tree q (last_step q)) (by (has_mark table (last_step q)) refl) (keys_there q h)
      where
        by : (b : Bool) → has_mark table (last_step q) ≡ b → (not b || is_some (cell (in_order read) q)) ≡ true
        by true marked = ap is_some (at q Mark (h.marks marked))
        by false marked = refl

    above_test : (row : Row) → AtPath table path read row → is_whole_above table (in_order read) path row.path ≡ true
    above_test row h = list_all-from (λ q. not (is_prefix path q) || is_whole_at table tree q) (prefixes row.path) (λ q there. by q there (cases_Bool (is_prefix path q)))
      where
        by : (q : List Step) → In q (prefixes row.path) → ((is_prefix path q ≡ true) ⊎ (is_prefix path q ≡ false)) → (not (is_prefix path q) || is_whole_at table (in_order read) q) ≡ true
        by q there (inr other) = ap (λ b. not b || is_whole_at table tree q) other
        by q there (inl below) =
            let (u, is) = IsPrefix-from_test path q below in
            let (v, goes_on) = front-of q row.path there in
            let rest : h.rest ≡ u ++ v = same_rest path h.rest (u ++ v) (sym h.is ∙ goes_on ∙ ap (λ r. r ++ v) is ∙ append_assoc path u v) in
            let mine : is_whole_at table tree q ≡ true = whole_test q (subst (λ r. WholeIn table read r) (sym is) (h.whole u v rest)) in
            (λ i. not (below i) || mine i)

    pub in_order-whole : ((row : Row) → In row read → (not (is_root path) || not (is_in_message table row.path)) ≡ true) → IsWhole table path (in_order read)
    in_order-whole clear = record {
      ascending = IsAscending-in_order read;
      fitting = list_all-from (row_fits table path tree) tree (λ row there. by row (among row there) (given.each row (among row there)));
      own = owned (has_own_row table path) refl;
      short = All-from (λ (row : Row). length row.path ≤ 32) tree (λ row there. let h = given.each row (among row there) in h.fits.short);
      readable = All-from (HasReadable table) tree (λ row there. let h = given.each row (among row there) in h.fits.readable);
    }
      where
        by : (row : Row) → In row read → AtPath table path read row → row_fits table path (in_order read) row ≡ true
        by row there h =
            and_from ((fits_path table row.path && is_prefix path row.path) && (cell_fits table row.path row.cell && is_whole_above table tree path row.path)) (not (is_root path) || not (is_in_message table row.path))
            (and_from (fits_path table row.path && is_prefix path row.path) (cell_fits table row.path row.cell && is_whole_above table tree path row.path)
            (and_from (fits_path table row.path) (is_prefix path row.path) h.fits.fit (ap (is_prefix path) h.is ∙ is_prefix-append path h.rest))
            (and_from (cell_fits table row.path row.cell) (is_whole_above table tree path row.path) h.fits.is_cell (above_test row h)))
            (clear row there)

        owned : (b : Bool) → has_own_row table path ≡ b → (not b || is_some (cell (in_order read) path)) ≡ true
        owned true has = let (c, there) = given.own has in ap is_some (at path c there)
        owned false has = refl

  -- ---- the value at a path

  -- what is read at the path is whole there
  abbrev IsRight : List Step → List Row → Type 0
  IsRight path read = IsWhole table path (in_order read)

  at_top : (json : Data) (read : List Row) → IsJson json → object_rows table None [] json ≡ Ok read → IsRight [] read
  at_top null read is e = cc
  at_top (boolean b) read is e = cc
  at_top (number x) read is e = cc
  at_top (string t) read is e = cc
  at_top (array items) read is e = cc
  at_top (object ms) read is e =
      let below = members_read table good ms None [] read refl refl is e in
      let given = at_plain table (Names table good None [] ms) [] read below (record { marks = λ marked. cc; keyed = λ values last. cc }) (λ has. cc) in
      in_order-whole [] read given (λ row there. clear row (below.each row there))
    where
      clear : (row : Row) → BelowPath table (Names table good None [] ms) [] read row → (not (is_root []) || not (is_in_message table row.path)) ≡ true
      clear row h =
          let (name, d, n, has, known, is) = h.passes in
          let (child, own) = member_meant table good None [] name n known in
          let (kind, above) = and_parts (is_kind is_data table n) (is_same (data_parent table n) None) child in
          let other = data-message table n kind in
          ap (λ p. not (is_root []) || not (is_in_message table p)) (h.is ∙ ap (λ s. s ∷ h.rest) is) ∙ ap not other

  module _ (p : List Step) where
    clear_below : (s : Step) (row : Row) → (not (is_root (p ++ s ∷ [])) || not (is_in_message table row.path)) ≡ true
    clear_below s row = ap (λ b. not b || not (is_in_message table row.path)) (no_root p s)

    at_key : (values : List Value) (json : Data) (read : List Row) → fits_path table (p ++ Key values ∷ []) ≡ true → length (p ++ Key values ∷ []) ≤ 32 → IsJson json
        → option_map_or (entry_rows table (p ++ Key values ∷ []) (Key values) json) (node_of (p ++ Key values ∷ [])) (Err (WrongShape (p ++ Key values ∷ []))) ≡ Ok read → IsRight (p ++ Key values ∷ []) read
    at_key values json read fit short is e =
        let path = p ++ Key values ∷ [] in
        let (n, node_here, e1) = from_some (entry_rows table path (Key values) json) (node_of path) (WrongShape path) read e in
        let (s, step, e2) = bind_ok (key_step table n (before_last path) json) (if_asked path (Key values) (marked true path (object_rows table (Some n) path json))) read e1 in
        let (asked, rows) = asked_parts path (Key values) s (marked true path (object_rows table (Some n) path json)) read e2 in
        let (ms, object_here) = object_is table n (before_last path) json s step in
        by n ms (sym (node_of-key p values) ∙ node_here) (subst (λ d. IsJson d) object_here is)
        (sym (ap (key_step table n (before_last path)) object_here) ∙ step ∙ ap (λ t. Ok t) asked)
        (sym (ap (λ d. marked true path (object_rows table (Some n) path d)) object_here) ∙ rows)
      where
        same_values : (v : List Value) → ◌≡◌ {A = Step} (Key v) (Key values) → v ≡ values
        same_values v e = cc

        by : (n : ℕ) (ms : Members) → node_of p ≡ Some n → IsJson (object ms) → key_step table n (before_last (p ++ Key values ∷ [])) (object ms) ≡ Ok (Key values)
            → marked true (p ++ Key values ∷ []) (object_rows table (Some n) (p ++ Key values ∷ []) (object ms)) ≡ Ok read → IsRight (p ++ Key values ∷ []) read
        by n ms node is step rows =
            let path = p ++ Key values ∷ [] in
            let (found, keys, same) = bind_ok (key_values table n (before_last path) ms (keys_of table n)) (λ values. Ok (Key values)) (Key values) step in
            let of_values = same_values found (same_ok (Key found) (Key values) same) in
            let place : after table (root table) path ≡ at_object table (Some n) =
            after-end table (root table) p (Key values) ∙ ap (λ o. record { node = o; wants_entry = false }) (after-node_of table p ∙ node) in
            let given = entry_at table good p n ms values (before_last path) read node fit short (keys ∙ ap (λ v. Ok v) of_values)
            (λ ys e. members_read table good ms (Some n) path ys fit place is e) rows in
            in_order-whole path read given (λ row there. clear_below (Key values) row)

    at_item : (value : Value) (json : Data) (read : List Row) → fits_path table (p ++ Item value ∷ []) ≡ true → length (p ++ Item value ∷ []) ≤ 32 → IsJson json
        → option_map_or (item_rows table (p ++ Item value ∷ []) (Item value) json) (node_of (p ++ Item value ∷ [])) (Err (WrongShape (p ++ Item value ∷ []))) ≡ Ok read → IsRight (p ++ Item value ∷ []) read
    at_item value json read fit short is e =
        let path = p ++ Item value ∷ [] in
        let (n, node_here, e1) = from_some (item_rows table path (Item value) json) (node_of path) (WrongShape path) read e in
        let (s, step, e2) = bind_ok (item_step table n (before_last path) json) (if_asked path (Item value) (marked true path (Ok []))) read e1 in
        let (asked, rows) = asked_parts path (Item value) s (marked true path (Ok [])) read e2 in
        let (found, scalar, same) = item_value table n (before_last path) json s step in
        let of_value : found ≡ value = same_item found (sym same ∙ asked) in
        let given = item_at table good p n json value (sym (node_of-item p value) ∙ node_here) fit short is (scalar ∙ ap (λ v. Ok v) of_value) in
        let (ys, none, all) = followed_parts (a_row path Mark ∷ []) (Ok []) read rows in
        let read_is : a_row path Mark ∷ [] ≡ read = ap (λ zs. a_row path Mark ∷ zs) (same_ok [] ys none) ∙ sym all in
        in_order-whole path read (subst (λ (r : List Row). ReadAt table path r) read_is given) (λ row there. clear_below (Item value) row)
      where
        same_item : (v : Value) → ◌≡◌ {A = Step} (Item v) (Item value) → v ≡ value
        same_item v e = cc

    at_end : (s : Step) (json : Data) (read : List Row) → fits_path table (p ++ s ∷ []) ≡ true → length (p ++ s ∷ []) ≤ 32 → IsJson json → rows_at table (p ++ s ∷ []) (Some s) json ≡ Ok read → IsRight (p ++ s ∷ []) read
    at_end (Node n) json read fit short is e = in_order-whole (p ++ Node n ∷ []) read (node_read table good json p n read fit short is e) (λ row there. clear_below (Node n) row)
    at_end (Key values) json read fit short is e = at_key values json read fit short is e
    at_end (Item value) json read fit short is e = at_item value json read fit short is e

  abbrev Reads : List Step → Type 0
  Reads path = (json : Data) (read : List Row) → fits_path table path ≡ true → length path ≤ 32 → IsJson json → rows_at table path (last_step path) json ≡ Ok read → IsRight path read

  right : (path : List Step) → Reads path
  right path = elim (ends path) [
    | inl empty ↦ subst (λ r. Reads r) (sym empty) (λ json read fit short is e. at_top json read is e)
    | inr (p, s, same) ↦ subst (λ r. Reads r) (sym same) (λ json read fit short is e. at_end p s json read fit short is (sym (ap (λ o. rows_at table (p ++ s ∷ []) o json) (last_step-end p s)) ∙ e))
  ]

pub reads_whole : ReadsWhole
reads_whole table good path fits short json is rows e =
    let (read, was, same) = bind_ok (rows_at table path (last_step path) json) (λ rows. Ok (in_order rows)) rows e in
    subst (λ (r : List Row). IsWhole table path r) (same_ok (in_order read) rows same) (right table good path json read fits short is was)
