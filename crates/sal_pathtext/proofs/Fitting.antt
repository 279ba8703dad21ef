-- A path that is read fits the schema.
use Rattle.std.proofs.Common.{◌≡◌, ℕ, zero, suc, Bool, true, false, ◌==◌, List, [], ◌∷◌, ◌++◌, drop, Option, Some, None, Result, Ok, Err, if◌then◌else◌, refl, sym, ap, ◌∙◌, arith}
use Rattle.std.specs.Prelude.{option_map, option_and_then, find}
use Rattle.std.specs.List.{list_all, list_any, slice_get}
use Rattle.std.specs.Option.{option_map_or}
use Rattle.std.proofs.lemmas.Bool.{and_from, and_parts}
use Rattle.std.proofs.lemmas.Bool.Decides.{nat_tests}
use Rattle.std.proofs.lemmas.Option.{option_and_then_some}
use Rattle.sal_types.specs.declared.value.Value.{Value}
use Rattle.sal_types.specs.declared.value.Step.{Step}
use Rattle.sal_types.specs.declared.value.Step.TheVariants.{Key, Item}
use Rattle.sal_types.specs.Reading.{◌>>=◌}
use Rattle.sal_schema.specs.declared.kind.Kind.{Kind}
use Rattle.sal_schema.specs.declared.kind.Kind.TheVariants.{List as ListKind, LeafList}
use Rattle.sal_schema.specs.declared.table.SchemaTable.{SchemaTable}
use Rattle.sal_schema.specs.Kinds.{is_list, is_leaf_list, has_entries}
use Rattle.sal_schema.specs.Paths.{are_of_nodes, may_pick}
use Rattle.sal_schema.specs.Table.{is_kind, kind_of, keys_of, type_of, module_of}
use Rattle.sal_schema.specs.Values.{is_of_node, is_of_type}
use Rattle.sal_json.specs.declared.fault.ScalarFault.{ScalarFault}
use Rattle.sal_json.specs.declared.fault.ScalarFault.TheVariants.{WrongKind}
use Rattle.sal_json.specs.Read.{text_scalar_of}
use Rattle.sal_json.proofs.OfType.{key_of_type}
use Rattle.sal_json.proofs.Chosen.{from_some, same_ok}
use Rattle.sal_pathtext.specs.declared.fault.PathTextFault.{PathTextFault}
use Rattle.sal_pathtext.specs.declared.fault.PathTextFault.TheVariants.{BadPredicate}
use Rattle.sal_pathtext.specs.declared.given.Given.{Given}
use Rattle.sal_pathtext.specs.declared.here.Here.{Here}
use Rattle.sal_pathtext.specs.Words.{Text, first, place, after_blanks, said, closed}
use Rattle.sal_pathtext.specs.Nodes.{is_for, value_given, with_value, values_given, not_given, entry_given, value_of}
use Rattle.sal_pathtext.specs.Read.{taken, found, subject, predicate, predicates}
pub use Rattle.sal_types.proofs.Handy.{bind_ok}

-- ---- readers

pub found_ok : {X : Type 0} (fault : PathTextFault) (o : Option X) (x : X) → found fault o ≡ Ok x → o ≡ Some x
found_ok fault None x e = cc
found_ok fault (Some y) x e = ap Some (same_ok y x e)

pub taken_ok : (at : ℕ) (r : Result Value ScalarFault) (value : Value) → taken at r ≡ Ok value → r ≡ Ok value
taken_ok at (Ok v) value e = ap Ok (same_ok v value e)
taken_ok at (Err fault) value e = cc

-- ---- tests

pub some_value : (x y : Value) → Some x ≡ Some y → x ≡ y
some_value x y e = cc

pub some_step : (x y : Step) → Some x ≡ Some y → x ≡ y
some_step x y e = cc

pub some_list : (x y : List Value) → Some x ≡ Some y → x ≡ y
some_list x y e = cc

-- ---- values

module _ (table : SchemaTable) where
  value_fits : (leaf : ℕ) (t : List ℕ) (value : Value) → value_of table leaf t ≡ Ok value → is_of_node table leaf value ≡ true
  value_fits leaf t value e =
      let (m, known, e1) = from_some (λ m. option_map_or (λ ty. text_scalar_of table ty m t) (type_of table leaf) (Err WrongKind)) (module_of table leaf) WrongKind value e in
      let (ty, there, read) = from_some (λ ty. text_scalar_of table ty m t) (type_of table leaf) WrongKind value e1 in
      ap (λ o. option_map_or (λ type. is_of_type table type value) (option_and_then (slice_get table.types) o) false) there ∙ key_of_type table ty m t value read

  abbrev is_right : Given → Bool
  is_right given = is_of_node table given.leaf given.value

  abbrev are_right : List Given → Bool
  are_right given = list_all is_right given

  right-append : (given : List Given) (one : Given) → are_right given ≡ true → is_right one ≡ true → are_right (given ++ one ∷ []) ≡ true
  right-append [] one all is = and_from (is_right one) true is refl
  right-append (x ∷ given) one all is =
      and_from (is_right x) (are_right (given ++ one ∷ [])) (and_parts (is_right x) (are_right given) all).0 (right-append given one (and_parts (is_right x) (are_right given) all).1 is)

  -- what was found for a leaf
  given_fits : (given : List Given) (leaf : ℕ) (value : Value) → are_right given ≡ true → value_given given leaf ≡ Some value → is_of_node table leaf value ≡ true
  given_fits [] leaf value all e = cc
  given_fits (x ∷ given) leaf value all e = by (λ e. given_fits given leaf value (and_parts (is_right x) (are_right given) all).1 e) (is_for leaf x) refl e
    where
      by : (value_given given leaf ≡ Some value → is_of_node table leaf value ≡ true) → (b : Bool) → is_for leaf x ≡ b → option_map (λ (one : Given). one.value) (if b then Some x else find (is_for leaf) given) ≡ Some value → is_of_node table leaf value ≡ true
      by later true is e =
          let here : x.leaf ≡ leaf = grind (arith, nat_tests) in
          let same : x.value ≡ value = some_value x.value value e in
          sym (λ i. is_of_node table (here i) (same i)) ∙ (and_parts (is_right x) (are_right given) all).0
      by later false is e = later e

  values_fit : (given : List Given) (keys : List ℕ) (values : List Value) → are_right given ≡ true → values_given given keys ≡ Some values → are_of_nodes table keys values ≡ true
  values_fit given [] values all e = by values e
    where
      by : (values : List Value) → ◌≡◌ {A = Option (List Value)} (Some []) (Some values) → are_of_nodes table [] values ≡ true
      by [] e = refl
      by (v ∷ values) e = cc
  values_fit given (leaf ∷ keys) values all e =
      option_and_then_some (λ value. with_value value (values_given given keys)) (value_given given leaf) values e (λ value is rest. by (λ more others. values_fit given keys more all others) value is (values_given given keys) refl rest)
    where
      by : ((more : List Value) → values_given given keys ≡ Some more → are_of_nodes table keys more ≡ true) → (value : Value) → value_given given leaf ≡ Some value → (more : Option (List Value)) → values_given given keys ≡ more → with_value value more ≡ Some values → are_of_nodes table (leaf ∷ keys) values ≡ true
      by later value is None others e = cc
      by later value is (Some more) others e =
          let same : value ∷ more ≡ values = some_list (value ∷ more) values e in
          ap (are_of_nodes table (leaf ∷ keys)) (sym same) ∙ and_from (is_of_node table leaf value) (are_of_nodes table keys more) (given_fits given leaf value all is) (later more others)

  -- ---- predicates

  not_given-is : (given : List Given) (o : Option ℕ) (leaf : ℕ) → not_given given o ≡ Some leaf → o ≡ Some leaf
  not_given-is given None leaf e = cc
  not_given-is given (Some other) leaf e = elim (list_any (is_for other) given) as (λ b. (if b then None else Some other) ≡ Some leaf → Some other ≡ Some leaf) [ true ↦ λ no. cc | false ↦ λ same. same ] e

  -- a place where an entry may follow is after the name of a list or leaf-list
  abbrev pub IsSound : Here → Type 0
  IsSound here = here.wants_entry ≡ true → option_map_or (is_kind has_entries table) here.node false ≡ true

  module _ (whole : Text) where
    -- a predicate, after each of its parts
    abbrev pub from_value : Text → ℕ → Value → Result (Given × Text) PathTextFault
    from_value rest leaf value = closed whole rest >>= λ end. Ok (record { leaf = leaf; value = value }, end)

    abbrev pub from_said : ℕ → ℕ → List ℕ × Text → Result (Given × Text) PathTextFault
    from_said at leaf spoken = taken at (value_of table leaf spoken.0) >>= from_value spoken.1 leaf

    abbrev pub from_leaf : ℕ → Text → ℕ → Result (Given × Text) PathTextFault
    from_leaf at after leaf = said whole after >>= from_said at leaf

    abbrev pub from_subject : ℕ → List Given → Option ℕ × Text → Result (Given × Text) PathTextFault
    from_subject at given one = found (BadPredicate at) (not_given given one.0) >>= from_leaf at one.1

    predicate_right : (n : ℕ) (given : List Given) (t : Text) (p : Given × Text) → predicate table whole n given t ≡ Ok p → is_right p.0 ≡ true
    unfolding predicate
    predicate_right n given t p e =
        let at = place whole t in
        bind_ok (subject table whole n (after_blanks (drop 1 t))) (from_subject at given) p e (λ one read1 e1.
        bind_ok (found (BadPredicate at) (not_given given one.0)) (from_leaf at one.1) p e1 (λ leaf free e2.
        bind_ok (said whole one.1) (from_said at leaf) p e2 (λ spoken read2 e3.
        bind_ok (taken at (value_of table leaf spoken.0)) (from_value spoken.1 leaf) p e3 (λ value read3 e4.
        bind_ok (closed whole spoken.1) (λ end. Ok (record { leaf = leaf; value = value }, end)) p e4 (λ end read4 e5.
        let same = same_ok (record { leaf = leaf; value = value }, end) p e5 in
        ap (λ (q : Given × Text). is_right q.0) (sym same) ∙ value_fits leaf spoken.0 value (taken_ok at (value_of table leaf spoken.0) value read3))))))

    pub predicates_right : (most n : ℕ) (given : List Given) (t : Text) (p : List Given × Text) → are_right given ≡ true → predicates table whole most n given t ≡ Ok p → are_right p.0 ≡ true
    unfolding predicates
    predicates_right zero n given t p all e = ap (λ (q : List Given × Text). are_right q.0) (sym (same_ok (given, t) p e)) ∙ all
    predicates_right (suc most) n given t p all e =
        elim (first t == 91) as (λ b. (if b then (predicate table whole n given t >>= λ q. predicates table whole most n (given ++ q.0 ∷ []) q.1) else Ok (given, t)) ≡ Ok p → are_right p.0 ≡ true) [
          | true ↦ λ e1. bind_ok (predicate table whole n given t) (λ q. predicates table whole most n (given ++ q.0 ∷ []) q.1) p e1 (λ q read rest.
              predicates_right most n (given ++ q.0 ∷ []) q.1 p (right-append given q.0 all (predicate_right n given t q read)) rest)
          | false ↦ λ e1. ap (λ (q : List Given × Text). are_right q.0) (sym (same_ok (given, t) p e1)) ∙ all
        ] e

    -- ---- steps

    pub entry_fits : (n : ℕ) (given : List Given) (one : Step) → is_kind has_entries table n ≡ true → are_right given ≡ true → entry_given table n given ≡ Some one → may_pick table n one ≡ true
    entry_fits n given one entries all e = by (is_kind is_leaf_list table n) refl e
      where
        other : (k : Kind) → is_leaf_list k ≡ false → has_entries k ≡ true → is_list k ≡ true
        other ListKind isnt is = refl
        other LeafList isnt is = cc
        other k isnt is = cc

        is_a_list : (o : Option Kind) → option_map_or is_leaf_list o false ≡ false → option_map_or has_entries o false ≡ true → option_map_or is_list o false ≡ true
        is_a_list None isnt is = cc
        is_a_list (Some k) isnt is = other k isnt is

        item : is_kind is_leaf_list table n ≡ true → (o : Option Value) → value_given given n ≡ o → option_map Item o ≡ Some one → may_pick table n one ≡ true
        item is None was e = cc
        item is (Some value) was e =
            let same : Item value ≡ one = some_step (Item value) one e in
            ap (may_pick table n) (sym same) ∙ and_from (is_kind is_leaf_list table n) (is_of_node table n value) is (given_fits given n value all was)

        keys : is_kind is_leaf_list table n ≡ false → (o : Option (List Value)) → values_given given (keys_of table n) ≡ o → option_map Key o ≡ Some one → may_pick table n one ≡ true
        keys isnt None was e = cc
        keys isnt (Some values) was e =
            let same : Key values ≡ one = some_step (Key values) one e in
            ap (may_pick table n) (sym same) ∙ and_from (is_kind is_list table n) (are_of_nodes table (keys_of table n) values) (is_a_list (kind_of table n) isnt entries) (values_fit given (keys_of table n) values all was)

        by : (b : Bool) → is_kind is_leaf_list table n ≡ b → (if b then option_map Item (value_given given n) else option_map Key (values_given given (keys_of table n))) ≡ Some one → may_pick table n one ≡ true
        by true is e = item is (value_given given n) refl e
        by false isnt e = keys isnt (values_given given (keys_of table n)) refl e
