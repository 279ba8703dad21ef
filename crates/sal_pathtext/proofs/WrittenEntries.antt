-- The predicates of an entry read back, and give the values of its keys.
use Rattle.std.proofs.Common.{◌≡◌, ℕ, zero, suc, ◌-◌, ◌<◌, ◌≤◌, Bool, true, false, not, ◌&&◌, ◌==◌, IsTrue, List, [], ◌∷◌, ◌++◌, length, drop, Option, Some, None, Ok, if◌then◌else◌, refl, sym, ap, subst, ◌∙◌, arith, append_assoc, append-nil}
use Rattle.std.specs.Prelude.{nat_eq, option_map, option_and_then, ⊤}
use Rattle.std.specs.List.{list_all, list_any}
use Rattle.std.specs.Option.{option_map_or}
use Rattle.std.proofs.lemmas.Bool.{and_from, or_from, or_left, or_right, not-true}
use Rattle.std.proofs.lemmas.Bool.Decides.{nat_tests}
use Rattle.std.proofs.lemmas.List.Folds.{list_any-append}
use Rattle.sal_types.specs.declared.value.Value.{Value}
use Rattle.sal_types.specs.Reading.{◌>>=◌}
use Rattle.sal_schema.specs.declared.kind.Kind.{Kind}
use Rattle.sal_schema.specs.declared.kind.Kind.TheVariants.{List as ListKind, Leaf}
use Rattle.sal_schema.specs.declared.table.NodeInfo.{NodeInfo}
use Rattle.sal_schema.specs.declared.table.SchemaTable.{SchemaTable}
use Rattle.sal_schema.specs.Kinds.{is_data, is_list, is_leaf, is_leaf_list, is_choice_or_case}
use Rattle.sal_schema.specs.Table.{closest, data_node, data_parent, is_among, is_data_child, is_kind, is_same, keys_of, kind_of, parent_of}
use Rattle.sal_schema.specs.Valid.{IsTable, all_differ, has_its_keys, agree, is_empty}
use Rattle.sal_schema.proofs.Conjuncts.{and_first, and_second, or_first, or_second}
use Rattle.sal_schema.proofs.Facts.{slice_get_some, slice_get_there, is_there, closest-Some}
use Rattle.sal_schema.proofs.Numbered.{all_from-at}
use Rattle.sal_schema.proofs.Children.{same-is}
use Rattle.sal_pathtext.specs.declared.fault.PathTextFault.TheVariants.{BadPredicate}
use Rattle.sal_pathtext.specs.declared.given.Given.{Given}
use Rattle.sal_pathtext.specs.Laws.{IsReadable, AreReadable}
use Rattle.sal_pathtext.specs.Words.{Text, first, is_blank, place, name}
use Rattle.sal_pathtext.specs.Nodes.{is_for, value_given, with_value, values_given, if_key, key_meant, value_text}
use Rattle.sal_pathtext.specs.Read.{taken, found, subject, predicate, predicates}
use Rattle.sal_pathtext.specs.Written.{name_text, said_text, key_text, item_text, keys_text}
use Rattle.sal_pathtext.proofs.Children.{same-itself}
use Rattle.sal_pathtext.proofs.Fitting.{from_value, from_said, from_leaf, from_subject}
use Rattle.sal_pathtext.proofs.WrittenNames.{IsEnd, not_blank, not_dot, name-again, name-starts, meant-again}
use Rattle.sal_pathtext.proofs.WrittenQuotes.{no_blanks, said-again}

-- ---- the values of keys

-- what the predicates of these leafs give
abbrev pub givens : List ℕ → List Value → List Given
givens (leaf ∷ leafs) (value ∷ values) = record { leaf = leaf; value = value } ∷ givens leafs values
givens leafs values = []

-- none of these leafs was given a value
abbrev pub AreFree : List Given → List ℕ → Type 0
AreFree given [] = ⊤
AreFree given (leaf ∷ leafs) = (list_any (is_for leaf) given ≡ false) × AreFree given leafs

pub free-nil : (leafs : List ℕ) → AreFree [] leafs
free-nil [] = tt
free-nil (leaf ∷ leafs) = (refl, free-nil leafs)

free-push : (given : List Given) (one : Given) (leafs : List ℕ) → AreFree given leafs → list_any (nat_eq one.leaf) leafs ≡ false → AreFree (given ++ one ∷ []) leafs
free-push given one [] free other = tt
free-push given one (leaf ∷ leafs) free other =
    let here : (one.leaf == leaf) ≡ false = or_first (nat_eq one.leaf leaf) (list_any (nat_eq one.leaf) leafs) other in (
      list_any-append (is_for leaf) given (one ∷ []) ∙ or_from (list_any (is_for leaf) given) (list_any (is_for leaf) (one ∷ [])) free.0 (or_from (one.leaf == leaf) false here refl),
      free-push given one leafs free.1 (or_second (nat_eq one.leaf leaf) (list_any (nat_eq one.leaf) leafs) other),
    )

itself : (n : ℕ) → (n == n) ≡ true
itself n = grind (arith, nat_tests)

value_found : (front : List Given) (one : Given) (more : List Given) → list_any (is_for one.leaf) front ≡ false → value_given (front ++ (one ∷ more)) one.leaf ≡ Some one.value
value_found [] one more free = rw (itself one.leaf) refl
value_found (x ∷ front) one more free =
    rw (or_first (is_for one.leaf x) (list_any (is_for one.leaf) front) free)
    (value_found front one more (or_second (is_for one.leaf x) (list_any (is_for one.leaf) front) free))

pub values_found : (front : List Given) (leafs : List ℕ) (values : List Value) → AreFree front leafs → IsTrue (all_differ nat_eq leafs) → length leafs ≡ length values
    → values_given (front ++ givens leafs values) leafs ≡ Some values
values_found front [] [] free differ same = refl
values_found front [] (v ∷ values) free differ same = absurd (omega (arith, same))
values_found front (leaf ∷ leafs) [] free differ same = absurd (omega (arith, same))
values_found front (leaf ∷ leafs) (v ∷ values) free differ same =
    let one : Given = record { leaf = leaf; value = v } in
    let all = front ++ (one ∷ givens leafs values) in
    let here : value_given all leaf ≡ Some v = value_found front one (givens leafs values) free.0 in
    let other = not-true (list_any (nat_eq leaf) leafs) (and_first (not (list_any (nat_eq leaf) leafs)) (all_differ nat_eq leafs) differ) in
    let later = values_found (front ++ one ∷ []) leafs values (free-push front one leafs free.1 other) (and_second (not (list_any (nat_eq leaf) leafs)) (all_differ nat_eq leafs) differ) (omega (arith, same)) in
    let rest : values_given all leafs ≡ Some values = ap (λ g. values_given g leafs) (sym (append_assoc front (one ∷ []) (givens leafs values))) ∙ later in
    ap (λ o. option_and_then (λ value. with_value value (values_given all leafs)) o) here ∙ ap (with_value v) rest

-- ---- the keys of a list

module _ (table : SchemaTable) where
  -- each of these leafs is a child of the node and one of its keys
  abbrev pub AreKeys : ℕ → List ℕ → Type 0
  AreKeys n [] = ⊤
  AreKeys n (leaf ∷ leafs) = (is_data_child table (Some n) leaf ≡ true) × (is_among leaf (keys_of table n) ≡ true) × AreKeys n leafs

  -- the keys of a list differ, and there is one
  pub record HasKeys (n : ℕ) : Type 0 where
    pub keys : AreKeys n (keys_of table n)
    pub differ : IsTrue (all_differ nat_eq (keys_of table n))
    pub some : 0 < length (keys_of table n)

  abbrev AreAmong : List ℕ → List ℕ → Type 0
  AreAmong keys [] = ⊤
  AreAmong keys (leaf ∷ leafs) = (is_among leaf keys ≡ true) × AreAmong keys leafs

  among-more : (keys : List ℕ) (x : ℕ) (leafs : List ℕ) → AreAmong keys leafs → AreAmong (x ∷ keys) leafs
  among-more keys x [] all = tt
  among-more keys x (leaf ∷ leafs) all = (or_right (x == leaf) (is_among leaf keys) all.0, among-more keys x leafs all.1)

  among-itself : (keys : List ℕ) → AreAmong keys keys
  among-itself [] = tt
  among-itself (leaf ∷ keys) = (or_left (leaf == leaf) (is_among leaf keys) (itself leaf), among-more keys leaf keys (among-itself keys))

  leaf_is_data : (o : Option Kind) → option_map_or is_leaf o false ≡ true → option_map_or is_data o false ≡ true
  leaf_is_data None e = cc
  leaf_is_data (Some k) e = by k e
    where
      by : (k : Kind) → is_leaf k ≡ true → is_data k ≡ true
      by Leaf e = refl
      by k e = cc

  list_stays : (o : Option Kind) → option_map_or is_list o false ≡ true → option_map_or (λ kind. not (is_choice_or_case kind)) o false ≡ true
  list_stays None e = cc
  list_stays (Some k) e = by k e
    where
      by : (k : Kind) → is_list k ≡ true → not (is_choice_or_case k) ≡ true
      by ListKind e = refl
      by k e = cc

  module _ (n : ℕ) (is : is_kind is_list table n ≡ true) where
    -- a list itself is a data parent
    under_list : data_node table (Some n) ≡ Some n
    under_list =
        let inside = is_there is_list table n is in
        let some : length table.nodes ≡ suc (length table.nodes - 1) = omega (arith, inside) in
        let stays = list_stays (kind_of table n) is in
        ap (λ steps. closest (λ kind. not (is_choice_or_case kind)) table steps (Some n)) some
        ∙ closest-Some (λ kind. not (is_choice_or_case kind)) table (length table.nodes - 1) n
        ∙ ap (λ b. if b then Some n else closest (λ kind. not (is_choice_or_case kind)) table (length table.nodes - 1) (parent_of table n)) stays

    abbrev is_key : ℕ → Bool
    is_key leaf = is_kind is_leaf table leaf && is_same (parent_of table leaf) (Some n)

    key_is_child : (leaf : ℕ) → is_key leaf ≡ true → is_data_child table (Some n) leaf ≡ true
    key_is_child leaf e =
        let kind = leaf_is_data (kind_of table leaf) (and_first (is_kind is_leaf table leaf) (is_same (parent_of table leaf) (Some n)) e) in
        let above = same-is (parent_of table leaf) (Some n) (and_second (is_kind is_leaf table leaf) (is_same (parent_of table leaf) (Some n)) e) in
        and_from (is_kind is_data table leaf) (is_same (data_parent table leaf) (Some n)) kind
        (ap (λ o. is_same o (Some n)) (ap (data_node table) above ∙ under_list) ∙ same-itself (Some n))

    keys_are : (leafs : List ℕ) → IsTrue (list_all is_key leafs) → AreAmong (keys_of table n) leafs → AreKeys n leafs
    keys_are [] all among = tt
    keys_are (leaf ∷ leafs) all among =
        (key_is_child leaf (and_first (is_key leaf) (list_all is_key leafs) all), among.0, keys_are leafs (and_second (is_key leaf) (list_all is_key leafs) all) among.1)

  pub list_has_keys : (n : ℕ) → IsTable table → is_kind is_list table n ≡ true → HasKeys n
  list_has_keys n good is =
      let (node, there) = slice_get_there table.nodes n (is_there is_list table n is) in
      let (inside, here) = slice_get_some table.nodes n node there in
      let right = subst (λ (x : NodeInfo). IsTrue (has_its_keys table n x)) (sym here) (all_from-at (has_its_keys table) 0 table.nodes n n node good.keys inside (omega arith)) in
      let own : node.keys ≡ keys_of table n = sym (ap (λ (o : Option NodeInfo). option_map_or (λ (x : NodeInfo). x.keys) o []) there) in
      let known : is_list node.kind ≡ true = sym (ap (λ (o : Option NodeInfo). option_map_or is_list (option_map (λ (x : NodeInfo). x.kind) o) false) there) ∙ is in
      let front = and_first (agree (is_list node.kind) (not (is_empty node.keys)) && all_differ nat_eq node.keys) (list_all (is_key n is) node.keys) right in
      let all = and_second (agree (is_list node.kind) (not (is_empty node.keys)) && all_differ nat_eq node.keys) (list_all (is_key n is) node.keys) right in
      let filled = and_first (agree (is_list node.kind) (not (is_empty node.keys))) (all_differ nat_eq node.keys) front in
      let one : not (is_empty node.keys) ≡ true = sym (ap (λ b. agree b (not (is_empty node.keys))) known) ∙ filled in
      let counted : 0 < length node.keys = grind (arith, nat_tests) in
      record {
        keys = keys_are n is (keys_of table n) (subst (λ ks. IsTrue (list_all (is_key n is) ks)) own all) (among-itself (keys_of table n));
        differ = subst (λ ks. IsTrue (all_differ nat_eq ks)) own (and_second (agree (is_list node.kind) (not (is_empty node.keys))) (all_differ nat_eq node.keys) front);
        some = subst (λ ks. 0 < length ks) own counted;
      }

  -- ---- predicates

  module _ (whole : Text) where
    -- a predicate whose leaf reads, has no value yet, and gets one that is readable
    predicate-again : (n leaf : ℕ) (value : Value) (given : List Given) (t rest : Text) → is_blank (first t) ≡ false
        → subject table whole n t ≡ Ok (Some leaf, said_text table leaf value ++ rest) → list_any (is_for leaf) given ≡ false → IsReadable table leaf value
        → predicate table whole n given (91 ∷ t) ≡ Ok (record { leaf = leaf; value = value }, rest)
    unfolding predicate
    predicate-again n leaf value given t rest start leads free reads =
        let at = place whole (91 ∷ t) in
        ap (λ u. subject table whole n u >>= from_subject table whole at given) (no_blanks t start)
        ∙ ap (λ r. r >>= from_subject table whole at given) leads
        ∙ ap (λ b. found (BadPredicate at) (if b then None else Some leaf) >>= from_leaf table whole at (said_text table leaf value ++ rest)) free
        ∙ ap (λ r. r >>= from_said table whole at leaf) (said-again whole (value_text table leaf value) rest)
        ∙ ap (λ r. taken at r >>= from_value table whole (93 ∷ rest) leaf) reads

    -- after the last one
    predicates-end : (most n : ℕ) (given : List Given) (rest : Text) → (first rest == 91) ≡ false → predicates table whole most n given rest ≡ Ok (given, rest)
    unfolding predicates
    predicates-end zero n given rest end = refl
    predicates-end (suc most) n given rest end =
        ap (λ b. if b then (predicate table whole n given rest >>= λ p. predicates table whole most n (given ++ p.0 ∷ []) p.1) else Ok (given, rest)) end

    -- one predicate and those after it
    predicates-one : (most n : ℕ) (given : List Given) (one : Given) (t after : Text) → predicate table whole n given (91 ∷ t) ≡ Ok (one, after)
        → predicates table whole (suc most) n given (91 ∷ t) ≡ predicates table whole most n (given ++ one ∷ []) after
    unfolding predicates
    predicates-one most n given one t after reads = ap (λ r. r >>= λ p. predicates table whole most n (given ++ p.0 ∷ []) p.1) reads

    -- ---- of a leaf-list

    dot-again : (n : ℕ) (t : Text) → is_kind is_leaf_list table n ≡ true → subject table whole n (46 ∷ t) ≡ Ok (Some n, t)
    unfolding subject
    dot-again n t is = ap (λ b. Ok ((if b then Some n else None), t)) is

    pub item-again : (most n : ℕ) (value : Value) (rest : Text) → is_kind is_leaf_list table n ≡ true → IsReadable table n value → (first rest == 91) ≡ false
        → predicates table whole (suc most) n [] (item_text table n value ++ rest) ≡ Ok (record { leaf = n; value = value } ∷ [], rest)
    item-again most n value rest is reads end =
        let spoken = said_text table n value ++ rest in
        predicates-one most n [] (record { leaf = n; value = value }) (46 ∷ spoken) rest
        (predicate-again n n value [] (46 ∷ spoken) rest refl (dot-again n spoken is) refl reads)
        ∙ predicates-end most n (record { leaf = n; value = value } ∷ []) rest end

    -- ---- of a list

    module _ (good : IsTable table) where
      key-again : (n leaf : ℕ) (rest : Text) → is_data_child table (Some n) leaf ≡ true → is_among leaf (keys_of table n) ≡ true → IsEnd rest
          → subject table whole n (name_text table (Some n) leaf ++ rest) ≡ Ok (Some leaf, rest)
      unfolding subject
      key-again n leaf rest child among end =
          let t = name_text table (Some n) leaf ++ rest in
          let starts = name-starts table good (Some n) leaf rest child in
          ap (λ b. if b then Ok ((if is_kind is_leaf_list table n then Some n else None), drop 1 t) else (name whole t >>= λ one. Ok (key_meant table n one.0, one.1))) (not_dot (first t) starts)
          ∙ ap (λ r. r >>= λ one. Ok (key_meant table n one.0, one.1)) (name-again table good whole (Some n) leaf rest child end)
          ∙ ap (λ o. Ok (option_and_then (if_key table n) o, rest)) (meant-again table good (Some n) leaf child)
          ∙ ap (λ b. Ok ((if b then Some leaf else None), rest)) among

      pub keys-again : (n : ℕ) (leafs : List ℕ) (values : List Value) (given : List Given) (most : ℕ) (rest : Text)
          → AreKeys n leafs → AreFree given leafs → IsTrue (all_differ nat_eq leafs) → length leafs ≡ length values → AreReadable table leafs values → length leafs ≤ most
          → (first rest == 91) ≡ false → predicates table whole most n given (keys_text table n leafs values ++ rest) ≡ Ok (given ++ givens leafs values, rest)
      keys-again n [] [] given most rest keys free differ same reads room end = predicates-end most n given rest end ∙ ap (λ g. Ok (g, rest)) (sym (append-nil given))
      keys-again n [] (v ∷ values) given most rest keys free differ same reads room end = absurd (omega (arith, same))
      keys-again n (leaf ∷ leafs) [] given most rest keys free differ same reads room end = absurd (omega (arith, same))
      keys-again n (leaf ∷ leafs) (v ∷ values) given zero rest keys free differ same reads room end = absurd (omega (arith, room))
      keys-again n (leaf ∷ leafs) (v ∷ values) given (suc most) rest keys free differ same reads room end =
          let one : Given = record { leaf = leaf; value = v } in
          let own = name_text table (Some n) leaf in
          let spoken = said_text table leaf v in
          let more = keys_text table n leafs values ++ rest in
          let t = own ++ (spoken ++ more) in
          let seam : keys_text table n (leaf ∷ leafs) (v ∷ values) ++ rest ≡ 91 ∷ t =
          append_assoc (key_text table n leaf v) (keys_text table n leafs values) rest ∙ ap (λ u. 91 ∷ u) (append_assoc own spoken more) in
          let start = not_blank (first t) (name-starts table good (Some n) leaf (spoken ++ more) keys.0) in
          let leads = key-again n leaf (spoken ++ more) keys.0 keys.1 (record { no_word = refl; no_colon = refl }) in
          let here = predicate-again n leaf v given t more start leads free.0 reads.0 in
          let other = not-true (list_any (nat_eq leaf) leafs) (and_first (not (list_any (nat_eq leaf) leafs)) (all_differ nat_eq leafs) differ) in
          let later = keys-again n leafs values (given ++ one ∷ []) most rest keys.2 (free-push given one leafs free.1 other) (and_second (not (list_any (nat_eq leaf) leafs)) (all_differ nat_eq leafs) differ) (omega (arith, same)) reads.1 (omega (arith, room)) end in
          ap (predicates table whole (suc most) n given) seam ∙ predicates-one most n given one t more here ∙ later
          ∙ ap (λ g. Ok (g, rest)) (append_assoc given (one ∷ []) (givens leafs values))
